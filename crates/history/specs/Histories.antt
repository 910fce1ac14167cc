-- A history: what the calls have put on a sheet. One list of events for each station, the first event first.
-- Stations are numbered from 0, and the events of a station from 1.
use Rattle.std.specs.Prelude.{ℕ, zero, suc, ◌+◌, ◌<◌, ◌≤◌, cond, List, [], ◌∷◌, ◌++◌, length, replicate, Some, None, Option, ◌==◌, slice_index_or, slice_set}
use Rattle.history.specs.declared.Event.{Event}
use Rattle.history.specs.declared.Wait.{Wait}

abbrev pub History : Type 0
History = List (List Event)

-- n stations, all of them empty
abbrev pub opened : ℕ → History
opened n = replicate n []

-- what a new sheet holds: one empty station
abbrev pub fresh : History
fresh = opened 1

-- the events of station s; a station that is not on the sheet holds none
abbrev pub events_of : History → ℕ → List Event
events_of h s = slice_index_or h s []

-- how many events station s holds
abbrev pub count : History → ℕ → ℕ
count h s = length (events_of h s)

-- how many events all stations hold
abbrev pub total : History → ℕ
total [] = 0
total (es ∷ h) = length es + total h

-- the history with one event more, at the end of station s
abbrev pub noted : History → ℕ → Event → History
noted h s e = slice_set h s (events_of h s ++ e ∷ [])

-- the n-th of a list, counted from 1
abbrev pub nth : {A : Type 0} → List A → ℕ → Option A
nth xs zero = None
nth [] (suc n) = None
nth (x ∷ xs) (suc zero) = Some x
nth (x ∷ xs) (suc (suc n)) = nth xs (suc n)

-- event number n of station s, where there is one
abbrev pub event : History → ℕ → ℕ → Option Event
event h s n = nth (events_of h s) n

-- station s has an event of number n
abbrev pub There : History → ℕ → ℕ → Type 0
There h s n = (0 < n) × (n ≤ count h s)

-- what event number n of station s waits for; nothing where it is not there
abbrev pub wait_of : Option Event → Wait
wait_of None = record { station = 0; count = 0 }
wait_of (Some e) = e.wait

abbrev pub wait : History → ℕ → ℕ → Wait
wait h s n = wait_of (event h s n)

-- how many of station t's events a wait names: always the first ones
abbrev pub awaits : Wait → ℕ → ℕ
awaits w t = cond (w.station == t) w.count 0
