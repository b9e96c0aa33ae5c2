use Rattle.std.proofs.Common.{◌≡◌, ◌/◌, map, take}
use Rattle.air_model.specs.Disks.{DiskSpec}
use Rattle.disk_split.proofs.numbers.chunks.Given as goal

abbrev pub invariant-loop-disk : goal.invariant-loop-disk
invariant-loop-disk l = l.chunks.items ≡ map (λ (d : DiskSpec). l.minors / d.freq) (take l.disk l.deck.disks)
