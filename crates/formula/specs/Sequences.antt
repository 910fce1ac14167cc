-- What a formula means, on finite sequences of events, by positions.
use Rattle.std.specs.Prelude.{◌≡◌, ℕ, suc, ◌-◌, ◌<◌, ◌≤◌, true, ◌⊎◌, List, length, drop, Some}
use Rattle.history.specs.Histories.{nth}
use Rattle.history.specs.declared.Label.{Label}
use Rattle.monitor.specs.Guards.{triggers}
use Rattle.monitor.specs.declared.guard.Guard.{Guard}
use Rattle.formula.specs.Formulas.{Future, Past}

-- there is an event at position i, and it triggers the guard
pub record Triggered (g : Guard) (w : List Label) (i : ℕ) : Type 0 where
  pub event : Label
  pub at : nth w (suc i) ≡ Some event
  pub triggered : triggers g event ≡ true

-- there is a next position, and the rest from it on has the property
abbrev pub Next : (List Label → Type 0) → List Label → Type 0
Next P w = (1 < length w) × P (drop 1 w)

-- the rest from every position, from some position on has it
abbrev pub Always : (List Label → Type 0) → List Label → Type 0
Always P w = (i : ℕ) → i < length w → P (drop i w)

abbrev pub Finally : (List Label → Type 0) → List Label → Type 0
Finally P w = (i : ℕ) × (i < length w) × P (drop i w)

-- the rest from some position on has the second, and from every position before it the first
abbrev pub Until : (List Label → Type 0) → (List Label → Type 0) → List Label → Type 0
Until P Q w = (j : ℕ) × (j < length w) × Q (drop j w) × ((i : ℕ) → i < j → P (drop i w))

-- a future formula holds on a sequence, that is, at its first position
abbrev pub Holds : Future → List Label → Type 0
Holds (Future.letter g) w = Triggered g w 0
Holds (Future.negated f) w = Holds f w → ⊥
Holds (Future.both f g) w = Holds f w × Holds g w
Holds (Future.either f g) w = Holds f w ⊎ Holds g w
Holds (Future.next f) w = Next (λ v. Holds f v) w
-- not X not
Holds (Future.weak_next f) w = Next (λ v. Holds f v → ⊥) w → ⊥
Holds (Future.always f) w = Always (λ v. Holds f v) w
Holds (Future.finally f) w = Finally (λ v. Holds f v) w
Holds (Future.until f g) w = Until (λ v. Holds f v) (λ v. Holds g v) w
-- not (not f U not g)
Holds (Future.release f g) w = Until (λ v. Holds f v → ⊥) (λ v. Holds g v → ⊥) w → ⊥

-- a past formula holds at index i of a sequence
abbrev pub HoldsAt : Past → List Label → ℕ → Type 0
HoldsAt (Past.letter g) w i = Triggered g w i
HoldsAt (Past.negated f) w i = HoldsAt f w i → ⊥
HoldsAt (Past.both f g) w i = HoldsAt f w i × HoldsAt g w i
HoldsAt (Past.either f g) w i = HoldsAt f w i ⊎ HoldsAt g w i
HoldsAt (Past.previous f) w i = (0 < i) × HoldsAt f w (i - 1)
HoldsAt (Past.once f) w i = (j : ℕ) × (j ≤ i) × HoldsAt f w j
HoldsAt (Past.historically f) w i = (j : ℕ) → j ≤ i → HoldsAt f w j
HoldsAt (Past.since f g) w i = (j : ℕ) × (j ≤ i) × HoldsAt g w j × ((n : ℕ) → j < n → n ≤ i → HoldsAt f w n)

-- a line holds on a sequence: a future formula at its first position, a past formula at every position
abbrev pub HoldsThroughout : Past → List Label → Type 0
HoldsThroughout f w = (i : ℕ) → i < length w → HoldsAt f w i
