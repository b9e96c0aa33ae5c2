use Rattle.std.proofs.Common.{map, ap, ◌∙◌, arith}
use Rattle.std.proofs.lemmas.List.{take_all}
use Rattle.air_model.specs.Disks.{DiskSpec}
use Rattle.air_cli.proofs.commands.split.own_sizes.Goals as goal

pub returns : goal.returns
returns c =
    let told = c.disks-disk-end.ensures.told in
    c.loop-disk.invariant ∙ ap (map (λ (d : DiskSpec). d.size)) (take_all c.loop-disk.disk c.args.deck.now.disks (omega arith))
