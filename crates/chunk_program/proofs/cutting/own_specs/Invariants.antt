use Rattle.std.proofs.Common.{◌≡◌, take}
use Rattle.chunk_program.proofs.cutting.own_specs.Given as goal

abbrev pub invariant-loop-disk : goal.invariant-loop-disk
invariant-loop-disk l = l.specs.items ≡ take l.disk l.deck.disks
