use Rattle.std.proofs.Common.{◌≡◌, ◌+◌, ◌++◌, List, Option, All, None, length, map}
use Rattle.std.specs.Prelude.{IfOk}
use Rattle.std.specs.Result.{result_ok}
use Rattle.air_model.specs.Buckets.{Bucket, IsInRange, bucket_in}
use Rattle.air_model.specs.Tapes.{tape_read}
use Rattle.listeners.specs.Listeners.{hears}
use Rattle.listeners.specs.Private.JudgedPieces.{IsJudged}
use Rattle.listeners.specs.Private.TogetherSteps.{KnowsAir, listeners_in}
use Rattle.listeners.proofs.together.hear_pieces.Given as goal

abbrev pub invariant-loop-records : goal.invariant-loop-records
invariant-loop-records g l = record {
  uncut : l.records.cut ≡ None;
  range : All (λ heard. IfOk heard IsInRange) l.piece.heard.items;
  end : length l.piece.heard.items ≡ 0 → length l.records.records ≡ 0;
  judged : IsJudged l.air l.piece;
  known : All (KnowsAir l.air) l.readers;
  heard : (so_far : List (Option Bucket)) × (map bucket_in (tape_read l.fn.tape).records ≡ so_far ++ (map result_ok l.piece.heard.items ++ map bucket_in l.records.records))
      × (listeners_in l.readers ≡ map (hears so_far) (listeners_in l.fn.readers));
}

abbrev pub decreases-loop-records : goal.decreases-loop-records
decreases-loop-records g l = length l.piece.heard.items + length l.records.records
