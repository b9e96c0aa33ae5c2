use Rattle.std.proofs.Common.{◌≡◌, ◌≤◌, ◌<◌, ◌^◌, take}
use Rattle.air_model.specs.Programs.{num_minors}
use Rattle.chunk_program.proofs.layout.num_minors.Given as goal

abbrev pub invariant-loop-disk : goal.invariant-loop-disk
invariant-loop-disk l = record {
  counted : l.minors ≡ num_minors (take l.disk-index l.disks);
  some : 0 < l.minors;
  under : l.minors ≤ 64 ^ l.disk-index;
}
