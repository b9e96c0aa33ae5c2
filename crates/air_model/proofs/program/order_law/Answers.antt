use Rattle.air_model.proofs.ItemOrder.{order_only}
use Rattle.air_model.proofs.program.order_law.Goals as goal

pub returns : goal.returns
returns c = λ rates items. order_only rates items
