use Rattle.std.proofs.Common.{is_ok, ap}
use Rattle.std.proofs.Output.{has_written_append}
use Rattle.history.proofs.shown.CountsDisplay.fmt.Goals as goal

pub returns-clause-writes : goal.returns-clause-writes
returns-clause-writes g c =
    λ plain ok.
    let p = c.write.ensures.writes plain (ap is_ok c.in_ok-write.was) in
    has_written_append g.W.Write.write_str_gives _ _ _ _ _ p (c.write-2.ensures.writes p.plain ok)
