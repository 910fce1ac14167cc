-- What a table holds.
use Rattle.std.specs.Prelude.{◌≡◌, ℕ, suc, List, [], map, length, take, Some, None, Option, slice_index_or, slice_set}
use Rattle.std.specs.List.{sum_by}
use Rattle.history.specs.Clocks.{Clock, larger, zeros}
use Rattle.history.specs.Histories.{History, nth}
use Rattle.history.specs.declared.Event.{Event}
use Rattle.history.specs.declared.Wait.{Wait}
use Rattle.sheet.specs.declared.table.Slot.{Slot}
use Rattle.sheet.specs.declared.table.Station.{Station}
use Rattle.sheet.specs.declared.table.Table.{Table}

-- the slots of a station that hold its events
abbrev pub filled : Station → List Slot
filled s = take s.len s.slots

-- the stations that the table has
abbrev pub there : Table → List Station
there t = take t.count t.stations

abbrev pub rows : Table → List (List Slot)
rows t = map filled (there t)

-- the slots of station s; none where it is not there
abbrev pub row : Table → ℕ → List Slot
row t s = slice_index_or (rows t) s []

-- how many slots all stations have
abbrev pub slot_count : Table → ℕ
slot_count t = sum_by (λ s. length (filled s)) (there t)

abbrev pub event_in : Slot → Event
event_in x = x.event

abbrev pub clock_in : Slot → List ℕ
clock_in x = x.clock

-- the history that the rows hold
abbrev pub held : Table → History
held t = map (map event_in) (rows t)

-- the clock kept with each event is its clock
abbrev pub Kept : Table → Type 0
Kept t = (s k : ℕ) (x : Slot) → nth (row t s) k ≡ Some x → Clock (held t) s k x.clock

-- the clock kept in a slot; all zeros where there is none
abbrev pub counts : Option Slot → List ℕ
counts None = zeros
counts (Some x) = x.clock

-- the clock of station s's next event, with that wait, merged from the clocks that are kept
abbrev pub next_clock : Table → ℕ → Wait → List ℕ
next_clock t s w =
    slice_set (larger (counts (nth (row t s) (length (row t s)))) (counts (nth (row t w.station) w.count))) s (suc (length (row t s)))
