use Rattle.receiver_core.proofs.WantedLemmas.{wanted_first}
use Rattle.receiver_core.proofs.laws.wanted_law.Goals as goal

pub returns : goal.returns
returns c = wanted_first
