use Rattle.std.proofs.Common.{◌≡◌, ◌∙◌, ap, arith}
use Rattle.std.specs.List.{flat_map, range_with_len}
use Rattle.air_model.specs.Programs.{minor_cycle}
use Rattle.chunk_program.proofs.ChunkLemmas.{slots_more, slots_whole}
use Rattle.chunk_program.proofs.layout.slots_of.Goals as goal

pub loop-minor-preserved : goal.loop-minor-preserved
loop-minor-preserved c =
    slots_more c.args.minors c.args.disks.now c.loop-minor.minor c.loop-minor.slots.items c.push_minor.new.slots.items c.loop-minor.invariant c.in_ok-push_minor.ensures

pub returns : goal.returns
returns c =
    let disks = c.args.disks.now in let minors = c.args.minors in
    let all : c.loop-minor.minor ≡ minors = omega arith in
    slots_whole minors disks c.loop-minor.slots.items c.requires.minors (c.loop-minor.invariant ∙ ap (λ n. flat_map (minor_cycle minors disks) (range_with_len 0 n)) all)
