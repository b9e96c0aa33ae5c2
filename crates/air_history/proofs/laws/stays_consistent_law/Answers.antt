use Rattle.air_history.proofs.PolicyLemmas.{stays_consistent}
use Rattle.air_history.proofs.laws.stays_consistent_law.Goals as goal

pub returns : goal.returns
returns c = stays_consistent
