use Rattle.history.proofs.Extension.{cuts_extend}
use Rattle.history.proofs.laws.cuts_extend.Goals as goal

pub returns : goal.returns
returns c = cuts_extend
