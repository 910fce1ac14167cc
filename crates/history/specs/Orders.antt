-- Compatible orders (linearizations) of a history. An order lists every event once; it is written as station numbers, since
-- the events of a station come in their succession: the n-th time that a station stands there is its event of number n.
use Rattle.std.specs.Prelude.{◌≡◌, ℕ, suc, ◌+◌, ◌<◌, ◌≤◌, cond, List, [], ◌∷◌, length, take, ◌==◌, slice_index, slice_index_or}
use Rattle.history.specs.Histories.{History, awaits, count, wait}

abbrev pub one_if : ℕ → ℕ → ℕ
one_if s t = cond (s == t) 1 0

-- how often station t stands in a list
abbrev pub occurs : ℕ → List ℕ → ℕ
occurs t [] = 0
occurs t (s ∷ o) = one_if s t + occurs t o

-- the number of the event at position i: one more than its station stands before
abbrev pub number_at : List ℕ → ℕ → ℕ
number_at o i = suc (occurs (slice_index o i) (take i o))

-- a compatible order: every event once, each station's events in their succession, and each event after those it awaits
pub record Compatible (h : History) (o : List ℕ) : Type 0 where
  -- no station stands there more or less often than it has events; one that is not on the sheet has none
  pub each : (s : ℕ) → occurs s o ≡ count h s
  -- what the event at position i awaits stands before it
  pub waits : (i : ℕ) → i < length o → (t : ℕ) → awaits (wait h (slice_index o i) (number_at o i)) t ≤ occurs t (take i o)

-- event number n of station s stands at position i
pub record Stands (o : List ℕ) (s n i : ℕ) : Type 0 where
  pub within : i < length o
  pub station : slice_index_or o i 0 ≡ s
  pub number : number_at o i ≡ n

-- event n of station s comes earlier than event k of station t
pub record Earlier (o : List ℕ) (s n t k : ℕ) : Type 0 where
  pub first : ℕ
  pub second : ℕ
  pub stands_first : Stands o s n first
  pub stands_second : Stands o t k second
  pub before : first < second
