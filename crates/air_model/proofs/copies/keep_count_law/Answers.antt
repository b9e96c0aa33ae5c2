use Rattle.air_model.proofs.copies.keep_count_law.Goals as goal
use Rattle.air_model.proofs.CopySums.{keep_count}

pub returns : goal.returns
returns c = keep_count
