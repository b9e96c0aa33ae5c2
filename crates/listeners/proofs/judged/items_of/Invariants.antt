use Rattle.std.proofs.Common.{◌≡◌, ◌≤◌, ◌<◌, ℕ, Result, length, get_or}
use Rattle.air_model.specs.declared.bucket.BucketFault.{BucketFault}
use Rattle.air_model.specs.Buckets.{Bucket}
use Rattle.listeners.specs.Private.JudgedPieces.{TellsItem}
use Rattle.listeners.proofs.judged.items_of.Given as goal

-- The members before have their notes.
abbrev pub invariant-loop-member : goal.invariant-loop-member
invariant-loop-member l = record {
  long : length l.items.items ≡ l.member-index;
  within : l.member-index ≤ length l.heard;
  each : (k n : ℕ) (d : Result Bucket BucketFault) → k < l.member-index → TellsItem (get_or l.items.items k n) (get_or l.heard k d);
}
