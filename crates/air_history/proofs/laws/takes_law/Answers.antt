use Rattle.air_history.proofs.PolicyLemmas.{takes}
use Rattle.air_history.proofs.laws.takes_law.Goals as goal

pub returns : goal.returns
returns c = takes
