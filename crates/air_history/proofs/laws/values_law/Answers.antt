use Rattle.air_history.proofs.AloneLemmas.{values}
use Rattle.air_history.proofs.laws.values_law.Goals as goal

pub returns : goal.returns
returns c = values
