use Rattle.air_model.proofs.ReceiverLemmas.{receiver}
use Rattle.air_model.proofs.sessions.receiver_law.Goals as goal

pub returns : goal.returns
returns c = receiver
