-- What a monitor means: an automaton over events, by its states, starts, bad states and steps.
use Rattle.std.specs.Prelude.{◌≡◌, ℕ, ◌<◌, ◌≤◌, Bool, true, List, [], ◌∷◌}
use Rattle.history.specs.declared.Label.{Label}

pub record Meaning : Type 0 where
  -- the states are the numbers below this one
  pub states : ℕ
  pub start : ℕ → Bool
  pub bad : ℕ → Bool
  -- the event may take the one state to the other
  pub step : ℕ → Label → ℕ → Bool

-- What every monitor owes: at most 4096 states, and no for a number that is no state, at either end of a step too.
pub record Lawful (m : Meaning) : Type 0 where
  pub few : m.states ≤ 4096
  pub starts : (s : ℕ) → m.start s ≡ true → s < m.states
  pub bads : (s : ℕ) → m.bad s ≡ true → s < m.states
  pub from : (s : ℕ) (e : Label) (t : ℕ) → m.step s e t ≡ true → s < m.states
  pub to : (s : ℕ) (e : Label) (t : ℕ) → m.step s e t ≡ true → t < m.states

-- a run over a sequence of events leads from the one state to the other
pub data Run (m : Meaning) : ℕ → List Label → ℕ → Type 0 where
  ends : {s : ℕ} → Run m s [] s
  goes : {s u t : ℕ} {e : Label} {w : List Label} → m.step s e u ≡ true → Run m u w t → Run m s (e ∷ w) t

-- the sequence drives the monitor to a bad state: some run from a start over the whole of it ends in one
pub record Drives (m : Meaning) (w : List Label) : Type 0 where
  pub first : ℕ
  pub last : ℕ
  pub starts : m.start first ≡ true
  pub run : Run m first w last
  pub ends_bad : m.bad last ≡ true
