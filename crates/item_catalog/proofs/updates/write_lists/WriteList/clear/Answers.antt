use Rattle.std.proofs.Common.{arith}
use Rattle.item_catalog.proofs.KeptOnceLemmas.{kept_none}
use Rattle.item_catalog.proofs.updates.write_lists.WriteList.clear.Goals as goal

pub invariant_of-self : goal.invariant_of-self
invariant_of-self c = (c.self.invariant.0, omega arith, kept_none)
