use Rattle.air_history.proofs.PolicyLemmas.{one_cycle}
use Rattle.air_history.proofs.laws.one_cycle_law.Goals as goal

pub returns : goal.returns
returns c = one_cycle
