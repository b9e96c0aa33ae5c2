use Rattle.air_model.proofs.RangeLemmas.{range}
use Rattle.air_model.proofs.aired.range_law.Goals as goal

pub returns : goal.returns
returns c = range
