use Rattle.air_model.proofs.copies.keep_own_law.Goals as goal
use Rattle.air_model.proofs.CopySums.{keep_own}

pub returns : goal.returns
returns c = keep_own
