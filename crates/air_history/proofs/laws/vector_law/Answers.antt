use Rattle.air_history.proofs.VectorLemmas.{vector_step}
use Rattle.air_history.proofs.laws.vector_law.Goals as goal

pub returns : goal.returns
returns c = vector_step
