use Rattle.air_history.proofs.PolicyLemmas.{stays_current}
use Rattle.air_history.proofs.laws.stays_current_law.Goals as goal

pub returns : goal.returns
returns c = stays_current
