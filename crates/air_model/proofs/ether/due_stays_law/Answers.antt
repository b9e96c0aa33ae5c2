use Rattle.air_model.proofs.DueLemmas.{due_stays}
use Rattle.air_model.proofs.ether.due_stays_law.Goals as goal

pub returns : goal.returns
returns c = due_stays
