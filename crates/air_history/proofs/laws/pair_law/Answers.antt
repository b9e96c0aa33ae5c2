use Rattle.air_history.proofs.ConsistencyLemmas.{pair_agree, pair_apart}
use Rattle.air_history.proofs.laws.pair_law.Goals as goal

pub returns : goal.returns
returns c = record { consistent = pair_agree; inconsistent = pair_apart }
