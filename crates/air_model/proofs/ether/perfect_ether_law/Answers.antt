use Rattle.air_model.proofs.ether.perfect_ether_law.Goals as goal
use Rattle.air_model.proofs.EtherLemmas.{clear_ether}

pub returns : goal.returns
returns c = clear_ether
