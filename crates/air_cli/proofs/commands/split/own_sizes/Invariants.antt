use Rattle.std.proofs.Common.{◌≡◌, map, take}
use Rattle.air_model.specs.Disks.{DiskSpec}
use Rattle.air_cli.proofs.commands.split.own_sizes.Given as goal

abbrev pub invariant-loop-disk : goal.invariant-loop-disk
invariant-loop-disk l = l.sizes.items ≡ map (λ (d : DiskSpec). d.size) (take l.disk l.deck.disks)
