-- What a sheet holds, as its calls speak of it.
use Rattle.std.specs.Prelude.{◌≡◌, ℕ, List, Ok, Err, Result}
use Rattle.history.specs.Histories.{History}
use Rattle.history.specs.RunFiles.{noting, records}
use Rattle.history.specs.declared.Refused.{Refused}
use Rattle.sheet.specs.Tables.{held}
use Rattle.sheet.specs.declared.types.Sheet.{Sheet}

abbrev pub history : Sheet → History
history s = held s.table

-- records noted in turn: the history after them, or the first refusal
abbrev pub NotedAll : History → List ℕ → History → Result (Unit {0}) Refused → Type 0
NotedAll before bytes after (Ok v) = noting before 0 (records bytes) ≡ Ok after
NotedAll before bytes after (Err why) = noting before 0 (records bytes) ≡ Err why
