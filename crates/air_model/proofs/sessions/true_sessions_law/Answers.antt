use Rattle.air_model.proofs.ReceiverLemmas.{true_sessions_are}
use Rattle.air_model.proofs.sessions.true_sessions_law.Goals as goal

pub returns : goal.returns
returns c = true_sessions_are
