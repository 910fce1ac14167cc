use Rattle.monitor.proofs.Tables.{arc_steps}
use Rattle.monitor.proofs.table.Table.fill.Goals as goal

pub returns-in_err-clause-steps : goal.returns-in_err-clause-steps
returns-in_err-clause-steps c = arc_steps _

pub returns-clause-steps : goal.returns-clause-steps
returns-clause-steps c = arc_steps _
