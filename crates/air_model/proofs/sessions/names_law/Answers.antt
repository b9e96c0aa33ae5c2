use Rattle.air_model.proofs.NameLemmas.{names}
use Rattle.air_model.proofs.sessions.names_law.Goals as goal

pub returns : goal.returns
returns c = names
