use Rattle.std.proofs.Common.{◌≡◌}
use Rattle.std.specs.List.{flat_map, range_with_len}
use Rattle.air_model.specs.Programs.{minor_cycle}
use Rattle.chunk_program.proofs.layout.slots_of.Given as goal

abbrev pub invariant-loop-minor : goal.invariant-loop-minor
invariant-loop-minor l = l.slots.items ≡ flat_map (minor_cycle l.minors l.disks) (range_with_len 0 l.minor)
