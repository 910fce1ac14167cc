-- Laws that are used when rules are written: unfoldings and dualities, on sequences of one event or more.
use Rattle.std.specs.Prelude.{ℕ, ◌<◌, ◌↔◌, List, ◌∷◌, length}
use Rattle.history.specs.declared.Label.{Label}
use Rattle.formula.specs.Formulas.{Future, Past}
use Rattle.formula.specs.Sequences.{Holds, HoldsAt}

-- two future formulas hold on the same sequences
abbrev pub Same : Future → Future → Type 0
Same f g = (e : Label) (w : List Label) → Holds f (e ∷ w) ↔ Holds g (e ∷ w)

-- two past formulas hold at the same indices
abbrev pub SameAt : Past → Past → Type 0
SameAt f g = (w : List Label) (i : ℕ) → i < length w → HoldsAt f w i ↔ HoldsAt g w i

pub record FutureLaws (f g : Future) : Type 0 where
  -- U: the second here, or the first here and U again at a next position
  pub until_unfolds : Same (Future.until f g) (Future.either g (Future.both f (Future.next (Future.until f g))))
  -- V: the second here, and the first here or V again at the next position if there is one
  pub release_unfolds : Same (Future.release f g) (Future.both g (Future.either f (Future.weak_next (Future.release f g))))
  pub always_unfolds : Same (Future.always f) (Future.both f (Future.weak_next (Future.always f)))
  pub finally_unfolds : Same (Future.finally f) (Future.either f (Future.next (Future.finally f)))
  pub not_next : Same (Future.negated (Future.next f)) (Future.weak_next (Future.negated f))
  pub not_until : Same (Future.negated (Future.until f g)) (Future.release (Future.negated f) (Future.negated g))
  pub not_finally : Same (Future.negated (Future.finally f)) (Future.always (Future.negated f))

pub record PastLaws (f g : Past) : Type 0 where
  -- S: the second here, or the first here and S already at the previous position
  pub since_unfolds : SameAt (Past.since f g) (Past.either g (Past.both f (Past.previous (Past.since f g))))
  pub once_unfolds : SameAt (Past.once f) (Past.either f (Past.previous (Past.once f)))

abbrev pub FormulaLaws : Type 0
FormulaLaws = ((f g : Future) → FutureLaws f g) × ((f g : Past) → PastLaws f g)
