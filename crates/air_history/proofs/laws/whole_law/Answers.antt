use Rattle.air_history.proofs.ConsistencyLemmas.{whole}
use Rattle.air_history.proofs.laws.whole_law.Goals as goal

pub returns : goal.returns
returns c = whole
