use Rattle.formula.proofs.Unfolding.{formula_laws}
use Rattle.formula.proofs.formula_laws.Goals as goal

pub returns : goal.returns
returns c = formula_laws
