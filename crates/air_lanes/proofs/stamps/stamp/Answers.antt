use Rattle.std.proofs.Common.{◌∙◌, arith}
use Rattle.air_lanes.proofs.PlaceLemmas.{stamped_by_places}
use Rattle.air_lanes.proofs.stamps.stamp.Goals as goal

pub returns : goal.returns
returns c = stamped_by_places c.args.cycle c.stamp_rest.new.dst c.args.marks.now c.args.dst.now (c.stamp_rest.auto.dst ∙ c.loop-block.auto.dst) c.requires (λ k l. grind (arith, c.stamp_rest.ensures, c.loop-block.invariant))
