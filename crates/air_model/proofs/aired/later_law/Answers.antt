use Rattle.air_model.proofs.LaterLemmas.{later}
use Rattle.air_model.proofs.aired.later_law.Goals as goal

pub returns : goal.returns
returns c = later
