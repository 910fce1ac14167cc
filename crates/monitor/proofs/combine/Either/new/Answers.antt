use Rattle.monitor.proofs.EitherDriven.{either_driven}
use Rattle.monitor.proofs.combine.Either.new.Goals as goal

pub returns-clause-driven : goal.returns-clause-driven
returns-clause-driven g c = either_driven _ _ (g.L.Monitor.lawful c.args.left) (g.R.Monitor.lawful c.args.right)
