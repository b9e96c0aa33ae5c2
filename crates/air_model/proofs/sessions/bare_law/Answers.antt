use Rattle.air_model.proofs.BareLemmas.{bare_is}
use Rattle.air_model.proofs.sessions.bare_law.Goals as goal

pub returns : goal.returns
returns c = bare_is
