-- What a receiver holds of a history, as long as the history aired what the receiver heard. Each call keeps it, and `held_law`
-- says the same of the rules.
use Rattle.std.specs.Prelude.{◌≡◌, ℕ, ◌<◌, true, false, not, ◌==◌, List, length, map, All, IfSome, IsTrue, Option}
use Rattle.std.specs.List.{find, list_any}
use Rattle.std.specs.Option.{is_some}
use Rattle.air_history.specs.declared.histories.Event.{Event}
use Rattle.air_history.specs.ClashLaws.{Accepts, HasAiredEntries, HasCappedEntries, IsAllowed}
use Rattle.air_model.specs.Aired.{Air, IsAiredBucket, SlotsFit, fits}
use Rattle.air_model.specs.Buckets.{Bucket, has_ages}
use Rattle.air_model.specs.Judges.{heard_of, place_of}
use Rattle.air_model.specs.Reads.{Read}
use Rattle.air_model.specs.SessionLaws.{QueriesFilled}
use Rattle.air_model.specs.Sessions.{Reader, State, query_of, wanted}
use Rattle.receiver_core.specs.Receivers.{Receiver}

-- The read is the history's: its entries are those that the history airs with its item in its cycle, some of them perhaps as ages tell
-- them; and where the air's buckets have no ages, each is the history's own.
abbrev pub IsReadIn : Air → List Event → Read → Type 0
IsReadIn air H x = HasCappedEntries air.scheme air.items H (heard_of x) × (has_ages air.version ≡ false → HasAiredEntries air.scheme air.items H (heard_of x))

-- The held reads and the copies are the history's; the policy accepted the held ones one after another, and allows them in
-- their order; and the query at hand wants an item, as none that is whole stays at hand.
pub record HoldsTruly (air : Air) (H : List Event) (reader : Reader) (s : State) : Type 0 where
  pub held : All (IsReadIn air H) s.held
  pub copies : All (IsReadIn air H) s.copies
  pub allowed : IsAllowed air.scheme.policy (map place_of s.held)
  pub accepted : Accepts air.scheme air.items H (map place_of s.held)
  pub at_hand : s.query < length reader.queries → is_some (wanted reader s) ≡ true

-- The history, with these values at its start, aired the heard member, if it is a bucket that fits.
abbrev pub WasAired : List ℕ → Air → List Event → Option Bucket → Type 0
WasAired values air H member = IfSome member (λ b. IsTrue (fits air b) → IsAiredBucket values air H b)

-- The first item of the query that none of the held reads is of.
abbrev pub first_unheld : Reader → State → Option ℕ
first_unheld reader s = find (λ i. not (list_any (λ r. r.item == i) s.held)) (query_of reader s)

-- What a receiver keeps when it hears a member: as long as a history aired what it hears, what it holds stays the history's.
pub record HearsTruly (member : Option Bucket) (before now : Receiver) : Type 0 where
  pub keeps : (values : List ℕ) (H : List Event) → SlotsFit before.air → QueriesFilled before.reader →
      WasAired values before.air H member → HoldsTruly before.air H before.reader before.state → HoldsTruly now.air H now.reader now.state

-- And when it continues without hearing anything.
pub record StaysTrue (before now : Receiver) : Type 0 where
  pub keeps : (H : List Event) → QueriesFilled before.reader → HoldsTruly before.air H before.reader before.state → HoldsTruly now.air H now.reader now.state
