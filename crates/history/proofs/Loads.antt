-- A load takes its records in turn, and its refusal's place is at most 513.
use Rattle.std.proofs.Common.{◌≡◌, ℕ, ◌+◌, ◌*◌, ◌≤◌, cond, List, [], ◌∷◌, length, get_or, drop, is_ok, Ok, Err, Result, sym, refl, ap, ◌∙◌, subst, ⊎_elim, add-one, arith, length-set}
use Rattle.std.proofs.lemmas.List.{length-replicate}
use Rattle.std.proofs.lemmas.Bool.{cases_eq}
use Rattle.std.proofs.lemmas.Bool.Decides.{nat_tests}
use Rattle.history.proofs.Noted.{accepted, opened_count, count_same, count_other}
use Rattle.history.proofs.Totals.{total_opened, total_noted, total_bound}
use Rattle.history.specs.Histories.{History, opened, count, total, noted}
use Rattle.history.specs.Notes.{Answer, Made, empty, more, note_answer, after_note, placed}
use Rattle.history.specs.RunFiles.{Record, Notes, none, next, Stops, InTurn, RecordsInTurn, LoadPlaces, and_then, noting, records, record_of, file_answer}
use Rattle.history.specs.declared.Event.{Event}
use Rattle.history.specs.declared.Refused.{Refused}

-- the same, where n records came before
abbrev Turn : History → ℕ → List Record → Result History Refused → Type 0
Turn h n rs (Ok k) = Notes h rs k
Turn h n rs (Err why) = (p : ℕ) × (why.place ≡ n + p) × Stops h rs p why.refusal

turn_more : (h : History) (n : ℕ) (r : Record) (rs : List Record) (a : Result History Refused)
    → note_answer h r.station r.event ≡ Ok tt
    → Turn (noted h r.station r.event) (n + 1) rs a → Turn h n (r ∷ rs) a
turn_more h n r rs (Ok k) ok t = next ok t
turn_more h n r rs (Err why) ok (p, e, s) = (
  p + 1,
  omega arith,
  record {
    before = r ∷ s.before;
    at = s.at;
    after = s.after;
    there = s.there;
    split = ap (λ x. r ∷ x) s.split;
    accepted = next ok s.accepted;
    refusal = s.refusal;
    numbered = omega (arith, s.numbered);
  },
)

turns : (h : History) (n : ℕ) (rs : List Record) → Turn h n rs (noting h n rs)
turns h n [] = none
turns h n (r ∷ rs) = by_answer (note_answer h r.station r.event) refl (turns (noted h r.station r.event) (n + 1) rs)
  where
    by_answer : (a : Answer) → note_answer h r.station r.event ≡ a
        → Turn (noted h r.station r.event) (n + 1) rs (noting (noted h r.station r.event) (n + 1) rs)
        → Turn h n (r ∷ rs) (and_then (placed (n + 1) a) (noting (noted h r.station r.event) (n + 1) rs))
    by_answer (Ok v) p t = turn_more h n r rs _ p t
    by_answer (Err why) p t = (
      1,
      refl,
      record
          { before = []; at = r; after = rs; there = h; split = refl; accepted = none; refusal = p; numbered = refl },
    )

pub records_in_turn : RecordsInTurn
records_in_turn h rs = from_start (noting h 0 rs) (turns h 0 rs)
  where
    from_start : (a : Result History Refused) → Turn h 0 rs a → InTurn h rs a
    from_start (Ok k) t = t
    from_start (Err why) (p, e, s) = subst (λ x. Stops h rs x why.refusal) (sym (omega arith)) s

-- at most eight stations of at most 64 events
record Small (h : History) : Type 0 where
  stations : length h ≤ 8
  events : (s : ℕ) → count h s ≤ 64

small_opened : (n : ℕ) → n ≤ 8 → Small (opened n)
small_opened n l = record { stations = rw length-replicate l; events = λ s. omega (arith, opened_count n s) }

small_noted : (h : History) (r : Record) → Small h → note_answer h r.station r.event ≡ Ok tt → Small (noted h r.station r.event)
small_noted h r small ok =
    let a = accepted h r.station r.event ok in
    record {
      stations = rw length-set small.stations;
      events = λ s. ⊎_elim
          (λ (p : s ≡ r.station). rw p (omega (arith, count_same h r.station r.event a.on, a.room)))
          (λ ne. omega (arith, count_other h r.station r.event a.on s ne, small.events s))
          (cases_eq s r.station);
    }

Low : Result History Refused → Type 0
Low a = (why : Refused) → a ≡ Err why → why.place ≤ 513

low_then : (place : ℕ) (a : Answer) (r : Result History Refused) → place ≤ 513 → (a ≡ Ok tt → Low r) → Low (and_then (placed place a) r)
unfolding Low
low_then place (Ok v) r l go = go refl
low_then place (Err reason) r l go =
    λ why q. let e : why ≡ record { refusal = reason; place = place } = cc in omega (arith, ap (λ (w : Refused). w.place) e)

noting_low : (h : History) (n : ℕ) (rs : List Record) → Small h → total h ≡ n → Low (noting h n rs)
unfolding Low
noting_low h n [] small t = λ why p. let z : ◌≡◌ {A = ℕ} 0 1 = cc in omega arith
noting_low h n (r ∷ rs) small t =
    let b : total h ≤ 64 * length h = total_bound h 64 small.events in
    low_then (n + 1) (note_answer h r.station r.event) _ (omega (arith, small.stations)) (λ ok.
    noting_low (noted h r.station r.event) (n + 1) rs (small_noted h r small ok)
    (omega (arith, total_noted h r.station r.event (accepted h r.station r.event ok).on)))

pub load_places : LoadPlaces
unfolding Low
load_places file =
    low_then 0 (file_answer file) _ (omega arith) (λ ok.
    noting_low (opened (get_or file 5 0)) 0 (records (drop 6 file))
    (small_opened (get_or file 5 0) (few ok)) (total_opened (get_or file 5 0)))
  where
    few : file_answer file ≡ Ok tt → get_or file 5 0 ≤ 8
    few ok = grind (arith, nat_tests)

-- a history made by notes holds at most 512 events
pub made_total : (h : History) → Made h → total h ≤ 512
made_total h m =
    let small = made_small h m in
    omega (arith, total_bound h 64 small.events, small.stations)
  where
    made_small : (k : History) → Made k → Small k
    made_small k (empty n _ l) = small_opened n l
    made_small k (more {h = k₀} s e m₀ ok) = small_noted k₀ record { station = s; event = e } (made_small k₀ m₀) ok

-- the first record of eight bytes and more
pub records_more : (xs : List ℕ) → 8 ≤ length xs
    → records xs ≡ record_of (get_or xs 0 0) (get_or xs 1 0) (get_or xs 2 0) (get_or xs 3 0) (get_or xs 4 0) (get_or xs 5 0) (get_or xs 6 0) (get_or xs 7 0) ∷ records (drop 8 xs)
records_more [] l = let z : ⊥ = omega arith in absurd z
records_more (a ∷ []) l = let z : ⊥ = omega arith in absurd z
records_more (a ∷ b ∷ []) l = let z : ⊥ = omega arith in absurd z
records_more (a ∷ b ∷ c ∷ []) l = let z : ⊥ = omega arith in absurd z
records_more (a ∷ b ∷ c ∷ d ∷ []) l = let z : ⊥ = omega arith in absurd z
records_more (a ∷ b ∷ c ∷ d ∷ e ∷ []) l = let z : ⊥ = omega arith in absurd z
records_more (a ∷ b ∷ c ∷ d ∷ e ∷ f ∷ []) l = let z : ⊥ = omega arith in absurd z
records_more (a ∷ b ∷ c ∷ d ∷ e ∷ f ∷ g ∷ []) l = let z : ⊥ = omega arith in absurd z
records_more (a ∷ b ∷ c ∷ d ∷ e ∷ f ∷ g ∷ i ∷ xs) l = refl

-- one accepted record: what is left leads where it led before
pub noting_more : (h : History) (n : ℕ) (r : Record) (rs : List Record) → note_answer h r.station r.event ≡ Ok tt
    → noting h n (r ∷ rs) ≡ noting (after_note h r.station r.event) (n + 1) rs
noting_more h n r rs ok =
    ap (λ a. and_then (placed (n + 1) a) (noting (noted h r.station r.event) (n + 1) rs)) ok
    ∙ ap (λ a. noting (cond (is_ok a) (noted h r.station r.event) h) (n + 1) rs) (sym ok)

-- one event more with each accepted record
pub total_more : (h : History) (s : ℕ) (e : Event) → note_answer h s e ≡ Ok tt → total (after_note h s e) ≡ total h + 1
total_more h s e ok =
    ap (λ a. total (cond (is_ok a) (noted h s e) h)) ok
    ∙ total_noted h s e (accepted h s e ok).on ∙ sym (add-one (total h))
