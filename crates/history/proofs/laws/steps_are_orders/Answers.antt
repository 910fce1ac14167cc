use Rattle.history.proofs.Readiness.{steps_are_orders}
use Rattle.history.proofs.laws.steps_are_orders.Goals as goal

pub returns : goal.returns
returns c = steps_are_orders
