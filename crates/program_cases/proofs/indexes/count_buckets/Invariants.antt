use Rattle.std.proofs.Common.{◌≡◌, ◌+◌, None, length}
use Rattle.air_index.specs.IndexedTapes.{AreBuckets}
use Rattle.air_model.specs.Tapes.{tape_read}
use Rattle.program_cases.proofs.indexes.count_buckets.Given as goal

-- The records so far were counted, and are buckets.
abbrev pub invariant-loop-bytes : goal.invariant-loop-bytes
invariant-loop-bytes l = record {
  whole : l.records.cut ≡ None;
  counted : l.count + length l.records.records ≡ length (tape_read l.fn.tape).records;
  grammar : AreBuckets l.records.records → AreBuckets (tape_read l.fn.tape).records;
}

abbrev pub decreases-loop-bytes : goal.decreases-loop-bytes
decreases-loop-bytes l = length l.records.records
