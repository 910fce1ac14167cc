use Rattle.std.proofs.Common.{arith, rules}
use Rattle.sheet.proofs.Tables.{larger_each}
use Rattle.sheet.proofs.table.Table.next_clock.Goals as goal

pub returns : goal.returns
returns c =
    let merged = larger_each _ _ c.merged-clock.result (search rules) (search rules) (search rules) c.merged-clock.ensures in
    grind (arith, merged, c.clock-previous.ensures, c.clock-awaited.ensures, c.events-number.ensures)
