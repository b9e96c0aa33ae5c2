use Rattle.air_model.proofs.copies.keep_one_law.Goals as goal
use Rattle.air_model.proofs.CopyOrders.{keep_one}

pub returns : goal.returns
returns c = keep_one
