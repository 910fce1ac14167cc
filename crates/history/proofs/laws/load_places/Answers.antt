use Rattle.history.proofs.Loads.{load_places}
use Rattle.history.proofs.laws.load_places.Goals as goal

pub returns : goal.returns
returns c = load_places
