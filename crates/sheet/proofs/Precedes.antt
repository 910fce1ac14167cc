-- The clocks of a sheet say which event comes earlier in every compatible order.
use Rattle.std.proofs.Common.{◌≡◌, ℕ, Bool, true, false, not, ◌&&◌, ◌==◌, leb, List, get_or, Some, Ok, Decides, Option, sym, ◌∙◌, subst}
use mathlib.Core.Bool.{Bool-set}
use mathlib.Core.Logic.{∥∥₁_elim}
use Rattle.std.proofs.lemmas.Bool.Decides.{Decides-and, Decides-eqb, Decides-not}
use Rattle.std.proofs.lemmas.Bool.{and_parts, and_from, and_left, le-leb, leb-true}
use Rattle.history.proofs.Precedes.{within_earlier, earlier_within}
use Rattle.history.specs.Clocks.{Clocked, OneClock}
use Rattle.history.specs.Histories.{History}
use Rattle.history.specs.Precedence.{Has, AlwaysEarlier, Preceded}
use Rattle.history.specs.declared.EventId.{EventId}
use Rattle.sheet.specs.Sheets.{history}
use Rattle.sheet.specs.declared.types.Sheet.{Sheet}

-- what a derived comparison says of two events by name
pub differs : (a b c d : ℕ) (r : Bool) → r ≡ not ((a == b) && (c == d)) → Decides r ((a ≡ b) × (c ≡ d) → ⊥)
differs a b c d r e =
    subst (λ x. Decides x ((a ≡ b) × (c ≡ d) → ⊥)) (sym e)
    (Decides-not _ (Decides-and _ _ (Decides-eqb a b) (Decides-eqb c d)))

-- an event whose clock is read is there
pub event_there : (h : History) (e : EventId) (o : Option (List ℕ)) (v : List ℕ) → Clocked h e.station e.number o → o ≡ Some v
    → Has h e × OneClock h e.station e.number v
event_there h e o v k p = subst (Clocked h e.station e.number) p k

module _ (sheet : Sheet) (a b : EventId) (u v : List ℕ)
    (first : Has (history sheet) a × OneClock (history sheet) a.station a.number u)
    (second : Has (history sheet) b × OneClock (history sheet) b.station b.number v)
    (other : Bool) (decides : Decides other ((a.station ≡ b.station) × (a.number ≡ b.number) → ⊥)) where
  -- the one event is not the other and lies within its clock
  both : Bool
  both = other && leb a.number (get_or v a.station 0)

  answers : Decides both (AlwaysEarlier (history sheet) a b)
  unfolding both
  answers = (
    λ p. let q = and_parts other (leb a.number (get_or v a.station 0)) p in
        within_earlier (history sheet) a.station a.number b.station b.number v first.0 second.0 second.1.is
        (leb-true _ _ q.1) (decides.0 q.0),
    λ every. ∥∥₁_elim sheet.made (Bool-set _ _) (λ m.
        let w = earlier_within (history sheet) m a.station a.number b.station b.number v second.0 second.1.is every in
        and_from other (leb a.number (get_or v a.station 0)) (decides.1 w.1) (le-leb _ _ w.0)),
  )

  -- what is answered where the two are one event, and where they are not
  pub answers_same : other ≡ false → Preceded (history sheet) a b (Ok other)
  unfolding both
  answers_same p = (
    (first.0, second.0),
    subst (λ x. Decides x (AlwaysEarlier (history sheet) a b)) (and_left other (leb a.number (get_or v a.station 0)) p ∙ sym p) answers,
  )

  pub answers_apart : other ≡ true → Preceded (history sheet) a b (Ok (leb a.number (get_or v a.station 0)))
  unfolding both
  answers_apart p = (
    (first.0, second.0),
    subst (λ x. Decides (x && leb a.number (get_or v a.station 0)) (AlwaysEarlier (history sheet) a b)) p answers,
  )
