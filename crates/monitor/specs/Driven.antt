-- When a combination is driven to a bad state, in terms of its parts. These laws are what makes the numbering of states right.
use Rattle.std.specs.Prelude.{ℕ, ◌+◌, ◌*◌, ◌<◌, ◌≤◌, cond, ◌⊎◌, ◌↔◌, List, [], ◌∷◌}
use Rattle.history.specs.declared.Label.{Label}
use Rattle.monitor.specs.Combinations.{either, both, only, hears}
use Rattle.monitor.specs.Meanings.{Meaning, Drives}

-- both parts have states, and the combination has no more than 4096
pub record Within (m n k : ℕ) : Type 0 where
  pub left : 0 < m
  pub right : 0 < n
  pub few : k ≤ 4096

-- the events whose variable is in the mask
abbrev pub heard : ℕ → List Label → List Label
heard mask [] = []
heard mask (e ∷ w) = cond (hears mask e.variable) (e ∷ heard mask w) (heard mask w)

-- within the limit, either is driven by a sequence exactly when one of its parts is; beyond it, never
pub record EitherDriven (a b : Meaning) : Type 0 where
  pub within : Within a.states b.states (a.states + b.states) → (w : List Label) → Drives (either a b) w ↔ (Drives a w ⊎ Drives b w)
  pub beyond : (Within a.states b.states (a.states + b.states) → ⊥) → (w : List Label) → Drives (either a b) w → ⊥

-- within the limit, both is driven exactly when each of its parts is; beyond it, never
pub record BothDriven (a b : Meaning) : Type 0 where
  pub within : Within a.states b.states (a.states * b.states) → (w : List Label) → Drives (both a b) w ↔ (Drives a w × Drives b w)
  pub beyond : (Within a.states b.states (a.states * b.states) → ⊥) → (w : List Label) → Drives (both a b) w → ⊥

-- only is driven exactly when the one below is by the events whose variable is in the mask
abbrev pub OnlyDriven : ℕ → Meaning → Type 0
OnlyDriven mask m = (w : List Label) → Drives (only mask m) w ↔ Drives m (heard mask w)
