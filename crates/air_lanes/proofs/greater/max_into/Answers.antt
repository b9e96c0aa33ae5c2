use Rattle.std.proofs.Common.{◌∙◌, arith}
use Rattle.air_lanes.proofs.PlaceLemmas.{greater_by_places}
use Rattle.air_lanes.proofs.greater.max_into.Goals as goal

pub returns : goal.returns
returns c = greater_by_places c.max_rest.new.dst c.args.dst.now c.args.src.now (c.max_rest.auto.dst ∙ c.loop-block.auto.dst) c.requires (λ k l. grind (arith, c.max_rest.ensures, c.loop-block.invariant))
