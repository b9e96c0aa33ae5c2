use Rattle.std.proofs.Common.{arith, refl}
use Rattle.item_catalog.proofs.KeptOnceLemmas.{kept_none}
use Rattle.item_catalog.proofs.updates.write_lists.WriteList.new.Goals as goal

pub invariant_of-result : goal.invariant_of-result
invariant_of-result c = (refl, omega arith, kept_none)
