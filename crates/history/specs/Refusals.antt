-- Every refusal with the number under which it is answered.
use Rattle.std.specs.Prelude.{ℕ}
use Rattle.history.specs.declared.Refusal.{Refusal}
use Rattle.history.specs.declared.Refusal.TheVariants.{NotARunFile, RunVersion, StationCount, PartialRecord, NoSuchStation, VariableRange, StationFull, AwaitedStation, AwaitedCount, NoSuchEvent, NotARuleFile, RuleVersion, GuardList, LineShape, UnknownItem, MissingOperand, TooManyTemporalItems, UnusedValue, BadTable, NoStates, NoEvents, TooManyConfigurations, ScratchTooShort, OrderTooShort}

abbrev pub number : Refusal → ℕ
-- a run file is under 6 bytes or lacks its mark
number NotARunFile = 1
-- a run file's version is not 1
number RunVersion = 2
-- a station count, in open or load, is not 1 to 8
number StationCount = 3
-- a run file's rest is not whole records
number PartialRecord = 4
-- a noted station is not below the station count
number NoSuchStation = 5
-- a variable is over 31
number VariableRange = 6
-- the station holds 64 events
number StationFull = 7
-- the awaited station is not below the station count, or is not 0 with count 0
number AwaitedStation = 8
-- the awaited count exceeds that station's events
number AwaitedCount = 9
-- reach or precedes names an event that is not there
number NoSuchEvent = 10
-- a rule file is under 6 bytes or lacks its mark
number NotARuleFile = 11
-- a rule file's version is not 1
number RuleVersion = 12
-- the guard count is over 26, guards are cut short, or an outside byte is over 1
number GuardList = 13
-- a line is not 2 to 33 bytes or has no kind
number LineShape = 14
-- an item is neither a listed guard's letter nor an item of its kind
number UnknownItem = 15
-- an item finds too few values
number MissingOperand = 16
-- the item is the seventh temporal one
number TooManyTemporalItems = 17
-- more than one value is left
number UnusedValue = 18
-- a table's states, initial state, mask, guards or arcs are not lawful
number BadTable = 19
-- judge is given a monitor without states
number NoStates = 20
-- judge is given a sheet without events
number NoEvents = 21
-- configurations exceed 16,777,216
number TooManyConfigurations = 22
-- scratch is shorter than the configurations
number ScratchTooShort = 23
-- order bytes are fewer than the events
number OrderTooShort = 24
