use Rattle.std.proofs.Common.{◌≡◌, ◌++◌, take}
use Rattle.air_model.specs.Programs.{minor_cycle}
use Rattle.chunk_program.proofs.layout.push_minor.Given as goal

abbrev pub invariant-loop-disk : goal.invariant-loop-disk
invariant-loop-disk l = l.slots.items ≡ l.fn.slots.items ++ minor_cycle l.minors (take l.disk-index l.disks) l.minor
