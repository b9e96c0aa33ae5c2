use Rattle.std.proofs.Common.{get_or, ap, ◌∙◌, ltb, w32, ◌+◌}
use lib.Lanes.{chunk}
use Rattle.std.proofs.lemmas.Simd.{tops_compared}
use Rattle.air_lanes.proofs.GreaterLemmas.{stored_inside, stored_is, stored_outside}
use Rattle.air_lanes.proofs.greater.max_block.Goals as goal

pub returns-clause-inside : goal.returns-clause-inside
returns-clause-inside c k below =
    let dst = c.args.dst.now in
    let src = c.args.src.now in
    let at = c.args.at in
    ap (λ l. get_or l (at + k) 0) (stored_is dst src at _ (tops_compared w32 ltb (chunk at 8 dst) (chunk at 8 src)))
    ∙ stored_inside dst src at k c.requires.room c.requires.same below

pub returns-clause-outside : goal.returns-clause-outside
returns-clause-outside c k away =
    let dst = c.args.dst.now in
    let src = c.args.src.now in
    let at = c.args.at in
    ap (λ l. get_or l k 0) (stored_is dst src at _ (tops_compared w32 ltb (chunk at 8 dst) (chunk at 8 src)))
    ∙ stored_outside dst src at k c.requires.room c.requires.same away
