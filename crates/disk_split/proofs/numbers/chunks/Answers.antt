use Rattle.std.proofs.Common.{◌/◌, map, ap, ◌∙◌, arith}
use Rattle.std.proofs.lemmas.List.{take_all}
use Rattle.air_model.specs.Disks.{DiskSpec}
use Rattle.disk_split.specs.Numbers.{chunks_in}
use Rattle.disk_split.proofs.numbers.chunks.Goals as goal

pub returns : goal.returns
unfolding chunks_in
returns c =
    let told = c.disks-disk-end.ensures.told in
    c.loop-disk.invariant ∙ ap (map (λ (d : DiskSpec). c.args.minors / d.freq)) (take_all c.loop-disk.disk c.args.deck.now.disks (omega arith))
    ∙ ap (λ m. map (λ (d : DiskSpec). m / d.freq) c.args.deck.now.disks) c.requires
