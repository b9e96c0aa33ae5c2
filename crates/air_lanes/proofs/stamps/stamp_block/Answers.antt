use Rattle.std.proofs.Common.{get_or, replicate, ap, ◌∙◌, eqb, w32, ◌+◌}
use lib.Lanes.{chunk}
use Rattle.std.proofs.lemmas.Simd.{tops_compared}
use Rattle.air_lanes.proofs.StampLemmas.{stored_inside, stored_is, stored_outside}
use Rattle.air_lanes.proofs.stamps.stamp_block.Goals as goal

pub returns-clause-inside : goal.returns-clause-inside
returns-clause-inside c k below =
    let dst = c.args.dst.now in
    let marks = c.args.marks.now in
    let at = c.args.at in
    ap (λ l. get_or l (at + k) 0) (stored_is dst marks at c.args.cycle _ (tops_compared w32 eqb (chunk at 8 marks) (replicate 8 0)))
    ∙ stored_inside dst marks at c.args.cycle k c.requires.room c.requires.same below

pub returns-clause-outside : goal.returns-clause-outside
returns-clause-outside c k away =
    let dst = c.args.dst.now in
    let marks = c.args.marks.now in
    let at = c.args.at in
    ap (λ l. get_or l k 0) (stored_is dst marks at c.args.cycle _ (tops_compared w32 eqb (chunk at 8 marks) (replicate 8 0)))
    ∙ stored_outside dst marks at c.args.cycle k c.requires.room c.requires.same away
