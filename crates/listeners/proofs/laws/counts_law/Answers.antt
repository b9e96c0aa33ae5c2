use Rattle.listeners.proofs.HearLemmas.{counted_all}
use Rattle.listeners.proofs.laws.counts_law.Goals as goal

pub returns : goal.returns
returns c = counted_all
