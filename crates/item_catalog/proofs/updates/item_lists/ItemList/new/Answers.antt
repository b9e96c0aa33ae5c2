use Rattle.std.proofs.Common.{arith}
use Rattle.item_catalog.proofs.KeptOnceLemmas.{kept_none}
use Rattle.item_catalog.proofs.updates.item_lists.ItemList.new.Goals as goal

pub invariant_of-result : goal.invariant_of-result
invariant_of-result c = (omega arith, kept_none)
