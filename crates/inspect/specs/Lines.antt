-- The lines that inspect prints, byte by byte.
use Rattle.std.specs.Prelude.{◌≡◌, ℕ, cond, List, ◌++◌, codes, decimal, Some, None, Option, ◌==◌}
use Rattle.history.specs.Clocks.{OneClock}
use Rattle.history.specs.Histories.{History, There, event}
use Rattle.history.specs.Shown.{clock_words}
use Rattle.history.specs.declared.Event.{Event}
use Rattle.history.specs.declared.EventId.{EventId}
use Rattle.history.specs.declared.Wait.{Wait}
use Rattle.inspect.specs.declared.text.EventLine.{EventLine}
use Rattle.std.specs.Fmt.{signed_decimal}

-- stations 2, events 3
abbrev pub heading_line : ℕ → ℕ → List ℕ
heading_line stations events = codes "stations " ++ (decimal stations ++ (codes ", events " ++ decimal events))

-- nothing; or: 2 of station 0
abbrev pub wait_words : Wait → List ℕ
wait_words w = cond (w.count == 0) (codes "nothing") (decimal w.count ++ (codes " of station " ++ decimal w.station))

-- variable 1 = -5
abbrev pub setting_words : Event → List ℕ
setting_words e = codes "variable " ++ (decimal e.variable ++ (codes " = " ++ signed_decimal e.value))

-- station 1 event 1: variable 1 = -5, waits for 2 of station 0, reach 2 1 0 0 0 0 0 0
abbrev pub event_line : ℕ → ℕ → Event → List ℕ → List ℕ
event_line s n e v =
    codes "station " ++ (decimal s ++ (codes " event " ++ (decimal n ++ (codes ": " ++ (setting_words e
    ++ (codes ", waits for " ++ (wait_words e.wait ++ (codes ", reach " ++ clock_words v))))))))

-- the line of an event that is there, with its clock, or none
abbrev pub LineOf : History → EventId → Option EventLine → Type 0
LineOf h i None = There h i.station i.number → ⊥
LineOf h i (Some l) = (l.id ≡ i) × (event h i.station i.number ≡ Some l.event) × OneClock h i.station i.number l.clock
