use Rattle.air_model.proofs.ether.heard_was_pushed_law.Goals as goal
use Rattle.air_model.proofs.EtherLemmas.{heard_was_pushed}

pub returns : goal.returns
returns c = heard_was_pushed
