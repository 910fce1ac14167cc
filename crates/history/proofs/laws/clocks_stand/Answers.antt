use Rattle.history.proofs.ClocksStand.{clocks_stand}
use Rattle.history.proofs.laws.clocks_stand.Goals as goal

pub returns : goal.returns
returns c = clocks_stand
