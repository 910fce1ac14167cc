use Rattle.history.proofs.Readiness.{ready_when_awaited}
use Rattle.history.proofs.laws.ready_when_awaited.Goals as goal

pub returns : goal.returns
returns c = ready_when_awaited
