use Rattle.air_history.proofs.AcceptedLemmas.{accepted}
use Rattle.air_history.proofs.laws.accepted_law.Goals as goal

pub returns : goal.returns
returns c = accepted
