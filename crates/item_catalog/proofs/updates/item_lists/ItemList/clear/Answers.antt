use Rattle.std.proofs.Common.{arith}
use Rattle.item_catalog.proofs.KeptOnceLemmas.{kept_none}
use Rattle.item_catalog.proofs.updates.item_lists.ItemList.clear.Goals as goal

pub invariant_of-self : goal.invariant_of-self
invariant_of-self c = (omega arith, kept_none)
