use Rattle.std.proofs.Common.{◌*◌, refl, arith}
use Rattle.air_lanes.proofs.GroupLemmas.{below_more}
use Rattle.air_lanes.proofs.search.first_not_below.Goals as goal

pub loop-group-preserved : goal.loop-group-preserved
loop-group-preserved c = record {
  groups = refl;
  below = λ k l. below_more c.args.column.now c.args.held.now (32 * c.loop-group.group) k c.loop-group.invariant.below (c.group_bits.ensures c.if-group_bits-ne0.false) (omega arith);
}
