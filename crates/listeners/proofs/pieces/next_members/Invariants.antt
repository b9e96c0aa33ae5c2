use Rattle.std.proofs.Common.{◌≡◌, ◌++◌, All, None, length, map}
use Rattle.std.specs.Prelude.{IfOk}
use Rattle.std.specs.Result.{result_ok}
use Rattle.air_model.specs.Buckets.{IsInRange, bucket_in}
use Rattle.listeners.proofs.pieces.next_members.Given as goal

abbrev pub invariant-loop-records : goal.invariant-loop-records
invariant-loop-records l = record {
  uncut : l.records.cut ≡ None;
  members : map bucket_in l.fn.records.records ≡ map result_ok l.piece.items ++ map bucket_in l.records.records;
  range : All (λ heard. IfOk heard IsInRange) l.piece.items;
}

abbrev pub decreases-loop-records : goal.decreases-loop-records
decreases-loop-records l = length l.records.records
