use Rattle.air_model.proofs.ether.heard_times_law.Goals as goal
use Rattle.air_model.proofs.EtherLemmas.{heard_times}

pub returns : goal.returns
returns c = heard_times
