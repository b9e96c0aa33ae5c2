-- For private steps alone. A piece of a tape that is judged once, for all readers who know one air: the item of each member, and how many members from
-- there on fit in one cycle.
use Rattle.std.specs.Prelude.{◌≡◌, ℕ, ◌+◌, ◌<◌, ◌≤◌, List, IfSome, IsTrue, Option, None, Result, Ok, Err, ⊤, length, map, get_or}
use Rattle.std.specs.Result.{result_ok}
use Rattle.air_model.specs.declared.bucket.BucketFault.{BucketFault}
use Rattle.air_model.specs.Aired.{Air, fits}
use Rattle.air_model.specs.Buckets.{Bucket}
use Rattle.air_model.specs.Sessions.{read_in}
use Rattle.listeners.specs.declared.judged.JudgedPiece.{JudgedPiece}
use Rattle.listeners.specs.declared.judged.Stretch.{Stretch}

-- A member is heard as a bucket, or as bytes that are none.
abbrev pub member_at : List (Result Bucket BucketFault) → ℕ → Option Bucket
member_at heard i = get_or (map result_ok heard) i None

-- Where the member is a bucket that gives a read, that is of this item.
abbrev pub TellsItem : ℕ → Result Bucket BucketFault → Type 0
TellsItem item (Err fault) = ⊤
TellsItem item (Ok b) = IfSome (read_in b.cycle b.body) (λ x. x.item ≡ item)

-- Each member has a note of its item.
pub record AreItemsOf (heard : List (Result Bucket BucketFault)) (items : List ℕ) : Type 0 where
  pub long : length items ≡ length heard
  pub each : (i n : ℕ) (d : Result Bucket BucketFault) → i < length heard → TellsItem (get_or items i n) (get_or heard i d)

-- The member is a bucket that fits, of this cycle.
abbrev pub FitsInCycle : Air → ℕ → Result Bucket BucketFault → Type 0
FitsInCycle air c (Err fault) = ⊥
FitsInCycle air c (Ok b) = IsTrue (fits air b) × (b.cycle ≡ c)

-- The stretch that begins with a member has at most the whole stretch after it, and that only in the same cycle.
pub record BeginsStretch (air : Air) (member : Result Bucket BucketFault) (next stretch : Stretch) : Type 0 where
  pub longer : stretch.len ≤ next.len + 1
  pub fitting : 0 < stretch.len → FitsInCycle air stretch.cycle member
  pub same : 1 < stretch.len → next.cycle ≡ stretch.cycle

-- The members of a stretch are there, fit, and are of its cycle.
pub record IsStretch (air : Air) (heard : List (Result Bucket BucketFault)) (i : ℕ) (stretch : Stretch) : Type 0 where
  pub within : i + stretch.len ≤ length heard
  pub fitting : (j : ℕ) (d : Result Bucket BucketFault) → j < stretch.len → FitsInCycle air stretch.cycle (get_or heard (i + j) d)

-- Each member has the stretch that begins with it.
pub record AreStretches (air : Air) (heard : List (Result Bucket BucketFault)) (stretches : List Stretch) : Type 0 where
  pub long : length stretches ≡ length heard
  pub each : (i : ℕ) (d : Stretch) → i < length heard → IsStretch air heard i (get_or stretches i d)

-- The notes of a piece are right for this air.
pub record IsJudged (air : Air) (piece : JudgedPiece) : Type 0 where
  pub items : AreItemsOf piece.heard.items piece.items.items
  pub stretches : AreStretches air piece.heard.items piece.stretches.items
