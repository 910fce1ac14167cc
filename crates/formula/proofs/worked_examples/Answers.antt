use Rattle.formula.proofs.Worked.{future_examples, past_examples}
use Rattle.formula.proofs.worked_examples.Goals as goal

pub returns : goal.returns
returns c = record { future = future_examples; past = past_examples }
