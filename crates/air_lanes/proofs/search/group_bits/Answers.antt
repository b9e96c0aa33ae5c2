use Rattle.std.proofs.Common.{◌∙◌, ap, sym, leb, w32, ◌%◌, ◌^◌}
use lib.Lanes.{chunk, mask_l}
use Rattle.std.proofs.lemmas.Simd.{tops_compared}
use Rattle.air_lanes.proofs.GroupLemmas.{none_below}
use Rattle.air_lanes.proofs.search.group_bits.Goals as goal

pub returns : goal.returns
returns c none k l =
    let is = ap (λ ms. mask_l ms % 2 ^ 64) (tops_compared w32 leb (chunk c.args.at 32 c.args.held.now) (chunk c.args.at 32 c.args.column.now)) in
    none_below c.args.column.now c.args.held.now c.args.at k c.requires.room c.requires.same l (sym is ∙ none)
