use Rattle.monitor.proofs.Tables.{Searched}
use Rattle.monitor.specs.Described.{described}
use Rattle.monitor.proofs.table.Table.moves.Given as goal

abbrev pub invariant-loop-bytes : goal.invariant-loop-bytes
invariant-loop-bytes l = Searched (described l.self) l.from l.event l.to l.bytes-index l.stays
