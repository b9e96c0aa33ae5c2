use Rattle.std.proofs.Common.{◌≡◌, ◌++◌, drop, length, sum_by}
use Rattle.air_model.specs.Disks.{DiskSpec, cut}
use Rattle.chunk_program.proofs.disks.cut_items.Given as goal

abbrev pub invariant-loop-spec : goal.invariant-loop-spec
invariant-loop-spec l = record {
  made : l.disks.items ++ cut l.rest (drop l.spec-index l.specs) ≡ cut l.fn.items l.specs;
  left : sum_by (λ (s : DiskSpec). s.size) (drop l.spec-index l.specs) ≡ length l.rest;
}
