use Rattle.history.proofs.Extension.{orders_exist}
use Rattle.history.proofs.laws.orders_exist.Goals as goal

pub returns : goal.returns
returns c = orders_exist
