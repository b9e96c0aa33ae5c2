use Rattle.air_history.proofs.ConsistencyLemmas.{more}
use Rattle.air_history.proofs.laws.more_law.Goals as goal

pub returns : goal.returns
returns c = more
