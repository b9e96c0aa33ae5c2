use Rattle.air_history.proofs.StepLemmas.{step}
use Rattle.air_history.proofs.laws.column_law.Goals as goal

pub returns : goal.returns
returns c = step
