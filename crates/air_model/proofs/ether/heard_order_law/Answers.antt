use Rattle.air_model.proofs.ether.heard_order_law.Goals as goal
use Rattle.air_model.proofs.EtherLemmas.{heard_order}

pub returns : goal.returns
returns c = heard_order
