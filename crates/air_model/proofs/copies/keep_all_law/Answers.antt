use Rattle.air_model.proofs.copies.keep_all_law.Goals as goal
use Rattle.air_model.proofs.CopyOrders.{keep_all}

pub returns : goal.returns
returns c = keep_all
