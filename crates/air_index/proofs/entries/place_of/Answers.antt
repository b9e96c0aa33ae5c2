use Rattle.std.proofs.Common.{arith}
use Rattle.air_index.proofs.MarkLemmas.{some_parts}
use Rattle.air_index.proofs.entries.place_of.Goals as goal

pub nonzero_div-result : goal.nonzero_div-result
nonzero_div-result c =
    let parts = some_parts c.args.program.now.disks (omega (arith, c.slots-slots.ensures.counted, c.slots-slots.ensures.some)) in
    omega (arith, parts.1, c.minor_len.ensures)
