use Rattle.std.proofs.Common.{arith}
use Rattle.air_history.specs.Tables.{values_of}
use Rattle.update_commit.proofs.StepLemmas.{map_by_all}
use Rattle.update_commit.proofs.receipts.copy_read.Goals as goal

pub returns : goal.returns
returns c = let i = c.loop-place.invariant in
    map_by_all (values_of c.args.values.now) c.args.items.now c.loop-place.into 0 i.0 (λ k d l. i.1 k d (omega arith))
