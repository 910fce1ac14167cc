use Rattle.history.proofs.Words.{words_follow}
use Rattle.history.proofs.laws.words_follow.Goals as goal

pub returns : goal.returns
returns c = words_follow
