use Rattle.sheet.proofs.Tables.{rows_blank}
use Rattle.sheet.proofs.table.Table.new.Goals as goal

pub returns : goal.returns
returns c = rows_blank c.args.count 8 c.empty.result c.requires c.empty.ensures
