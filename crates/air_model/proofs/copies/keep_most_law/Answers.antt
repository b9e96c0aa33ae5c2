use Rattle.air_model.proofs.copies.keep_most_law.Goals as goal
use Rattle.air_model.proofs.CopySums.{keep_most}

pub returns : goal.returns
returns c = keep_most
