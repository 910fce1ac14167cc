use Rattle.std.proofs.Common.{◌≡◌, drop, map}
use Rattle.history.specs.Histories.{total}
use Rattle.history.specs.RunFiles.{noting}
use Rattle.sheet.proofs.Loads.{record_in}
use Rattle.sheet.specs.Sheets.{history}
use Rattle.sheet.proofs.types.Sheet.note_all.Given as goal

-- what is left to note leads where all the records lead
abbrev pub invariant-loop-k : goal.invariant-loop-k
invariant-loop-k l =
    (noting (history l.self) l.k (map record_in (drop l.k l.chunks)) ≡ noting (history l.initial.self) 0 (map record_in l.chunks))
    × (total (history l.self) ≡ l.k)
