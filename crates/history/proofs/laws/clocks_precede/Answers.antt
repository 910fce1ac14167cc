use Rattle.history.proofs.Precedes.{clocks_precede}
use Rattle.history.proofs.laws.clocks_precede.Goals as goal

pub returns : goal.returns
returns c = clocks_precede
