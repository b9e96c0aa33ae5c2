use Rattle.air_model.proofs.ExactLemmas.{exact}
use Rattle.air_model.proofs.sessions.exact_law.Goals as goal

pub returns : goal.returns
returns c = exact
