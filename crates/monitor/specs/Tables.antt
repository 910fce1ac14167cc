-- Table automata: what a table describes, when it is lawful, and what it means.
use Rattle.std.specs.Prelude.{◌≡◌, ℕ, zero, suc, ◌+◌, ◌*◌, ◌/◌, ◌%◌, ◌^◌, ◌<◌, Bool, true, false, cond, ◌&&◌, ◌||◌, ◌⊎◌, List, [], length, Some, None, Ok, Err, Decides, Option, ◌==◌, nat_le, nat_lt, slice_index}
use Rattle.history.specs.Notes.{Answer}
use Rattle.history.specs.declared.Label.{Label}
use Rattle.history.specs.declared.Refusal.TheVariants.{BadTable}
use Rattle.monitor.specs.Guards.{guard_at, triggers}
use Rattle.monitor.specs.Meanings.{Meaning}
use Rattle.monitor.specs.declared.bytes.Arc.{Arc}
use Rattle.monitor.specs.declared.guard.Guard.{Guard}
use Rattle.monitor.specs.declared.parts.Parts.{Parts}

-- the number of states, the initial one, a mask with bit k for a bad state k, and the bytes of guards and arcs
pub record Description : Type 0 where
  pub states : ℕ
  pub initial : ℕ
  pub bad : ℕ
  pub guards : List ℕ
  pub arcs : List ℕ

-- what a table's parts describe
abbrev pub description : Parts → Description
description p = record { states = p.states; initial = p.initial; bad = p.bad; guards = p.guards.now; arcs = p.arcs.now }

-- it holds of every, of some number below n
abbrev pub all_below : ℕ → (ℕ → Bool) → Bool
all_below zero p = true
all_below (suc n) p = all_below n p && p n

abbrev pub any_below : ℕ → (ℕ → Bool) → Bool
any_below zero p = false
any_below (suc n) p = any_below n p || p n

-- the arc of number k: three bytes each, from, guard number, to
abbrev pub arc_at : List ℕ → ℕ → Arc
arc_at bytes k = record { from = slice_index bytes (3 * k + 0); guard = slice_index bytes (3 * k + 1); to = slice_index bytes (3 * k + 2) }

abbrev pub guard_count : Description → ℕ
guard_count d = length d.guards / 10

abbrev pub arc_count : Description → ℕ
arc_count d = length d.arcs / 3

-- guard k's outside byte is 0 or 1
abbrev pub guard_lawful : List ℕ → ℕ → Bool
guard_lawful guards k = nat_le (slice_index guards (10 * k + 9)) 1

-- guard k of a list, where it is whole and lawful
abbrev pub listed_guard : List ℕ → ℕ → Option Guard
listed_guard bytes k = cond (nat_le (10 * k + 10) (length bytes) && guard_lawful bytes k) (Some (guard_at bytes k)) None

-- both ends of the arc are states and its guard is listed
abbrev pub arc_lawful : ℕ → ℕ → Arc → Bool
arc_lawful states guards a = nat_lt a.from states && (nat_lt a.guard guards && nat_lt a.to states)

-- 1 to 64 states, among them the initial one and, by the mask's bits, every bad one
abbrev pub states_lawful : ℕ → ℕ → ℕ → Bool
states_lawful states initial bad = nat_le 1 states && (nat_le states 64 && (nat_lt initial states && bad / 2 ^ states == 0))

-- the states fit each other, and guards and arcs are whole and lawful
abbrev pub lawful_table : Description → Bool
lawful_table d =
    (length d.guards % 10 == 0 && length d.arcs % 3 == 0)
    && (states_lawful d.states d.initial d.bad
    && (all_below (guard_count d) (guard_lawful d.guards)
    && all_below (arc_count d) (λ k. arc_lawful d.states (guard_count d) (arc_at d.arcs k))))

abbrev pub fill_answer : Description → Answer
fill_answer d = cond (lawful_table d) (Ok tt) (Err BadTable)

-- arc k leads on from state s with the event
abbrev pub leads : Description → ℕ → Label → ℕ → Bool
leads d s e k =
    ((arc_at d.arcs k).from == s) && triggers (guard_at d.guards (arc_at d.arcs k).guard) e

-- t is the target of an arc from s whose guard the event triggers, or t is s and there is no such arc
abbrev pub moves : Description → ℕ → Label → ℕ → Bool
moves d s e t =
    cond (any_below (arc_count d) (leads d s e))
    (any_below (arc_count d) (λ k. leads d s e k && (arc_at d.arcs k).to == t))
    (s == t)

abbrev pub table : Description → Meaning
table d = record {
  states = d.states;
  start = λ s. nat_lt s d.states && (s == d.initial);
  bad = λ s. nat_lt s d.states && ((d.bad / 2 ^ s) % 2 == 1);
  step = λ s e t. nat_lt s d.states && (nat_lt t d.states && moves d s e t);
}

-- an arc from s to t whose guard the event triggers
pub record LeadingArc (d : Description) (s : ℕ) (e : Label) (t : ℕ) : Type 0 where
  pub number : ℕ
  pub listed : number < arc_count d
  pub from : (arc_at d.arcs number).from ≡ s
  pub triggered : triggers (guard_at d.guards (arc_at d.arcs number).guard) e ≡ true
  pub to : (arc_at d.arcs number).to ≡ t

-- between states: an arc leads from s to t, or t is s and no arc leads from s anywhere
abbrev pub ArcSteps : Description → Type 0
ArcSteps d =
    (s : ℕ) (e : Label) (t : ℕ) → s < d.states → t < d.states
    → Decides ((table d).step s e t) (LeadingArc d s e t ⊎ ((s ≡ t) × ((u : ℕ) → LeadingArc d s e u → ⊥)))

-- what a new table holds: one state, which is not bad and which every event keeps
abbrev pub idle : Description
idle = record { states = 1; initial = 0; bad = 0; guards = []; arcs = [] }
