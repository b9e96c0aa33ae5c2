use Rattle.std.proofs.Common.{◌≡◌, ◌≤◌, ◌*◌, take}
use Rattle.air_model.specs.Programs.{minor_len}
use Rattle.chunk_program.proofs.layout.len_before.Given as goal

abbrev pub invariant-loop-disk : goal.invariant-loop-disk
invariant-loop-disk l = record {
  counted : l.len ≡ minor_len l.minors (take l.disk-index l.disks);
  under : l.len ≤ 1024 * l.disk-index;
}
