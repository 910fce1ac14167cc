use Rattle.monitor.proofs.BothDriven.{both_driven}
use Rattle.monitor.proofs.combine.Both.new.Goals as goal

pub returns-clause-driven : goal.returns-clause-driven
returns-clause-driven g c = both_driven _ _ (g.L.Monitor.lawful c.args.left) (g.R.Monitor.lawful c.args.right)
