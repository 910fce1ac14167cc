use Rattle.formula.proofs.FutureDriven.{future_driven}
use Rattle.formula.proofs.PastDriven.{past_driven}
use Rattle.formula.proofs.Reading.{future_few, past_few}
use Rattle.formula.proofs.lines_driven.Goals as goal

pub returns : goal.returns
returns c = (
  λ guards bytes f p. (future_few guards bytes f p, future_driven f),
  λ guards bytes f p. (past_few guards bytes f p, past_driven f),
)
