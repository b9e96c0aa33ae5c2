use Rattle.air_index.proofs.RightLemmas.{answered_rightly}
use Rattle.air_index.proofs.laws.seek_law.Goals as goal

pub returns : goal.returns
returns c = answered_rightly
