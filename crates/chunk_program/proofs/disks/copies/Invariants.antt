use Rattle.std.proofs.Common.{◌≡◌, take}
use Rattle.chunk_program.proofs.disks.copies.Given as goal

abbrev pub invariant-loop-disk : goal.invariant-loop-disk
invariant-loop-disk l = l.copies.items ≡ take l.disk-index l.disks
