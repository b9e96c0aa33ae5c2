-- For private steps alone. What a piece asks of a reader that hears it, and what becomes of readers who hear it together, side by side.
use Rattle.std.specs.Prelude.{◌≡◌, ◌<◌, ◌+◌, ◌^◌, ℕ, true, List, All, IfOk, Option, length, map, get_or}
use Rattle.air_model.specs.Aired.{Air}
use Rattle.air_model.specs.Buckets.{Bucket, IsInRange}
use Rattle.receiver_core.specs.Receivers.{heard_count}
use Rattle.listeners.specs.declared.together.TogetherReader.{TogetherReader}
use Rattle.listeners.specs.declared.judged.JudgedPiece.{JudgedPiece}
use Rattle.listeners.specs.Listeners.{Listener, hears}
use Rattle.listeners.specs.Private.JudgedPieces.{IsJudged}

-- The listeners of readers, one after another.
abbrev pub listeners_in : List TogetherReader → List Listener
listeners_in readers = map (λ reader. reader.listener) readers

-- What came of the records of a piece is in range and was judged by the reader's air, and the reader has room to count them.
unfoldable pub CanHear : JudgedPiece → TogetherReader → Type 0
CanHear piece reader = All (λ heard. IfOk heard IsInRange) piece.heard.items × (heard_count reader.listener.state.counts + length piece.heard.items < 2 ^ 64) × IsJudged reader.listener.air piece

-- The reader knows this air.
abbrev pub KnowsAir : Air → TogetherReader → Type 0
KnowsAir air reader = reader.listener.air ≡ air

-- If there was memory, the reader heard these members. It knows the same air in any case.
unfoldable pub HasHeardMembers : List (Option Bucket) → TogetherReader → TogetherReader → Type 0
HasHeardMembers members before now = (now.done ≡ true → now.listener ≡ hears members before.listener) × (now.listener.air ≡ before.listener.air)

-- So it is of each reader.
abbrev pub EachHeard : List (Option Bucket) → List TogetherReader → List TogetherReader → Type 0
EachHeard members before now =
    (length now ≡ length before) × ((k : ℕ) (d : TogetherReader) → k < length before → HasHeardMembers members (get_or before k d) (get_or now k d))
