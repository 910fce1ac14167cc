-- Vector clocks. An event's clock, which the call reach answers, has eight counts, one for each station: how many of that
-- station's events come before it for certain, itself counted at its own station.
use Rattle.std.specs.Prelude.{◌≡◌, ℕ, zero, suc, ◌≤◌, max, List, [], ◌∷◌, length, replicate, Some, None, Ok, Err, Option, Result, slice_index, slice_index_or, slice_set}
use Rattle.history.specs.Histories.{History, There, awaits, count, wait}
use Rattle.history.specs.Notes.{Made}
use Rattle.history.specs.declared.Refusal.TheVariants.{NoSuchEvent}
use Rattle.history.specs.declared.Refused.{Refused}

abbrev pub zeros : List ℕ
zeros = replicate 8 0

-- the larger count at each place
abbrev pub larger : List ℕ → List ℕ → List ℕ
larger [] v = []
larger (a ∷ u) [] = []
larger (a ∷ u) (b ∷ v) = max a b ∷ larger u v

-- v is the clock of event number n of station s: the larger, place by place, of the clock of the station's previous event
-- and the clock of the last event awaited, and then its own number at its own station. Where there is no such event (the
-- number is 0) the clock is all zeros.
pub data Clock (h : History) : ℕ → ℕ → List ℕ → Type 0 where
  missing : {s : ℕ} {v : List ℕ} → v ≡ zeros → Clock h s zero v
  of_event : {s n : ℕ} {v : List ℕ} (previous awaited : List ℕ)
      → suc n ≤ count h s
      → Clock h s n previous
      → Clock h (wait h s (suc n)).station (wait h s (suc n)).count awaited
      → v ≡ slice_set (larger previous awaited) s (suc n)
      → Clock h s (suc n) v

-- v is the clock of the event, and the only one
pub record OneClock (h : History) (s n : ℕ) (v : List ℕ) : Type 0 where
  pub is : Clock h s n v
  pub only : (u : List ℕ) → Clock h s n u → u ≡ v

-- the clock of an event that is there, or none
abbrev pub Clocked : History → ℕ → ℕ → Option (List ℕ) → Type 0
Clocked h s n None = There h s n → ⊥
Clocked h s n (Some v) = There h s n × OneClock h s n v

-- What the call reach answers and leaves in the place lent: the clock of the event; or it is refused, since there is no such
-- event, and the place holds what it held.
abbrev pub Reached : History → ℕ → ℕ → List ℕ → List ℕ → Result (Unit {0}) Refused → Type 0
Reached h s n before after (Ok v) = There h s n × OneClock h s n after
Reached h s n before after (Err why) =
    (There h s n → ⊥) × (why ≡ record { refusal = NoSuchEvent; place = 0 }) × (after ≡ before)

-- What holds of a clock in every history made by notes. An event is within v when its number is at most v's count at its
-- station.
pub record Reaches (h : History) (s n : ℕ) (v : List ℕ) : Type 0 where
  pub eight : length v ≡ 8
  pub own : slice_index_or v s 0 ≡ n
  -- v counts only events that are there
  pub there : (t : ℕ) → slice_index v t ≤ count h t
  -- what an event within v awaits is within v
  pub closed : (t k : ℕ) → k ≤ slice_index v t → (x : ℕ) → awaits (wait h t k) x ≤ slice_index v x
  -- the clock of an event within v is nowhere above v
  pub within : (t k : ℕ) (u : List ℕ) → Clock h t k u → k ≤ slice_index v t → (x : ℕ) → slice_index u x ≤ slice_index v x

-- In a history made by notes each event has exactly one clock, of eight counts and closed under awaiting.
abbrev pub ClocksStand : Type 0
ClocksStand = (h : History) → Made h → (s n : ℕ) → There h s n → (v : List ℕ) × OneClock h s n v × Reaches h s n v
