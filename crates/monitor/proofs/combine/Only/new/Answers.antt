use Rattle.monitor.proofs.OnlyDriven.{only_driven}
use Rattle.monitor.proofs.combine.Only.new.Goals as goal

pub returns-clause-driven : goal.returns-clause-driven
returns-clause-driven g c = only_driven c.args.mask _ (g.M.Monitor.lawful c.args.below)
