use Rattle.air_model.proofs.RangeLemmas.{bytes_aired}
use Rattle.air_model.proofs.aired.bytes_law.Goals as goal

pub returns : goal.returns
returns c = bytes_aired
