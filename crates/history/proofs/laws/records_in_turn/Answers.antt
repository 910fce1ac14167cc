use Rattle.history.proofs.Loads.{records_in_turn}
use Rattle.history.proofs.laws.records_in_turn.Goals as goal

pub returns : goal.returns
returns c = records_in_turn
