use Rattle.listeners.proofs.HearLemmas.{session_is}
use Rattle.listeners.proofs.laws.session_law.Goals as goal

pub returns : goal.returns
returns c = session_is
