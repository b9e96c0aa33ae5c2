use Rattle.std.proofs.Common.{◌≡◌, ◌++◌, ◌*◌, None, drop}
use Rattle.air_model.specs.Programs.{minor_len, num_minors}
use Rattle.air_model.specs.Tapes.{tape_of}
use Rattle.air_index.specs.IndexedTapes.{records_at_marks}
use Rattle.air_index.proofs.BeamLemmas.{first_minors}
use Rattle.air_index.proofs.beams.put_cycle.Given as goal

-- The records of the minor cycles before.
abbrev pub invariant-loop-minor : goal.invariant-loop-minor
invariant-loop-minor l = record {
  whole : l.buckets.cut ≡ None;
  left : l.buckets.records ≡ drop (l.minor * minor_len (num_minors l.program.disks) l.program.disks) l.fn.buckets.records;
  written : l.out.items ≡ l.fn.out.items ++ tape_of (records_at_marks l.plans l.n l.cycle 0 (first_minors l.program.disks l.minor) l.fn.buckets.records);
}
