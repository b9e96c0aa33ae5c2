use Rattle.air_ether.proofs.EtherLemmas.{due_stays}
use Rattle.air_ether.proofs.laws.due_first_law.Goals as goal

pub returns : goal.returns
returns c = due_stays
