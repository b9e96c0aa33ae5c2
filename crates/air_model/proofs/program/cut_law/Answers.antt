use Rattle.air_model.specs.Disks.{order}
use Rattle.air_model.proofs.ItemOrder.{cut_airable, cut_items, length-order}
use Rattle.air_model.proofs.program.cut_law.Goals as goal
use Rattle.std.proofs.Common.{sym, ◌∙◌}

pub returns : goal.returns
returns c = λ rates specs. (cut_airable rates specs, λ sum. cut_items (order rates) specs (sum ∙ sym (length-order rates)))
