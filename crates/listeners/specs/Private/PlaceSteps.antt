-- For private steps alone. What a reader skips of what its ether gives, and what the members of a cycle's places are.
use Rattle.std.specs.Prelude.{◌≡◌, ◌≢◌, ℕ, ◌+◌, ◌-◌, ◌%◌, ◌^◌, ◌<◌, ◌≤◌, false, List, [], Option, Some, IfSome, MatchOption, length, map, get_or, slice_get, slice_index_or}
use Rattle.std.specs.List.{range_with_len}
use Rattle.air_base.specs.declared.verdicts.Form.{Form}
use Rattle.air_ether.specs.declared.ether.TheConstants.{MOST_PUSHES}
use Rattle.air_ether.specs.HeardPlaces.{IsPlacesAfter, left_before, places_of}
use Rattle.air_ether.specs.HeardSoFar.{Ether, IsQuiet}
use Rattle.air_history.specs.Boards.{Board}
use Rattle.air_model.specs.Airings.{slot_item}
use Rattle.air_model.specs.Buckets.{Bucket, bucket_in}
use Rattle.air_model.specs.Decks.{Deck}
use Rattle.air_model.specs.Ethers.{heard_by}
use Rattle.air_model.specs.Outputs.{odds_in}
use Rattle.air_sender.specs.BoardBuckets.{bucket_on}
use Rattle.receiver_core.specs.Receivers.{heard_count}
use Rattle.listeners.specs.declared.last_buckets.TheConstants.{KEPT_BUCKETS}
use Rattle.listeners.specs.declared.place_listeners.PlaceListener.{PlaceListener}
use Rattle.listeners.specs.AiredCycles.{AreFitting}
use Rattle.listeners.specs.Listeners.{hears, listener_of}
use Rattle.listeners.specs.PlaceListeners.{AreRecent, IsPlaceListener, given_at}

-- The place is one of this cycle, and its slot doesn't carry the wanted item.
pub record IsUnwantedPlace (slots : List (Option ℕ)) (first : ℕ) (wanted : Option ℕ) (p : ℕ) : Type 0 where
  pub from : first ≤ p
  pub within : p < first + length slots
  pub other : IfSome wanted (λ i. slot_item slots (p - first) ≢ Some i)

-- The places that are given up to the end of this cycle.
abbrev pub places_to : ℕ → ℕ → Ether → ℕ → List ℕ
places_to seed number e last = places_of seed number e.odds last false

-- The ether gave this place, after this many others.
abbrev pub HasGiven : ℕ → ℕ → ℕ → ℕ → ℕ → Ether → Type 0
HasGiven seed number last given place e = (slice_get (places_to seed number e last) given ≡ Some place) × IsPlacesAfter seed number (given + 1) e

-- The ether gives the place after this many others next, or all that is due was given.
abbrev pub GivesNext : ℕ → ℕ → ℕ → ℕ → Option ℕ → Ether → Ether → Type 0
GivesNext seed number last given next old new =
    MatchOption next ((given ≡ length (places_to seed number old last)) × IsPlacesAfter seed number given new)
    (λ p. (slice_get (places_to seed number old last) given ≡ Some p) × IsPlacesAfter seed number (given + 1) new)

-- The places that were skipped are unwanted.
abbrev pub AreSkipped : List (Option ℕ) → ℕ → Option ℕ → List ℕ → ℕ → ℕ → Type 0
AreSkipped slots first wanted places given skipped = (j : ℕ) → j < skipped → IsUnwantedPlace slots first wanted (get_or places (given + j) 0)

-- What was pushed at the places of this cycle, and at the last places before it.
pub record AreMembers (form : Form) (e : ℕ) (slots : List (Option ℕ)) (board : Board) (first : ℕ) (recent : List (List ℕ)) (member : ℕ → Option Bucket) : Type 0 where
  pub here : (s : ℕ) → s < length slots → member (first + s) ≡ Some (bucket_on form e slots board s)
  pub before : (p : ℕ) → p < first → first ≤ p + KEPT_BUCKETS → member p ≡ bucket_in (get_or recent (p % KEPT_BUCKETS) [])

-- The reader heard what its ether gives of a cycle whose first slot has this place: each member by its place, after those that had been given before.
pub record HearsPlaces (form : Form) (e : ℕ) (slots : List (Option ℕ)) (board : Board) (first : ℕ) (recent : List (List ℕ)) (before now : PlaceListener) : Type 0 where
  pub opened : now.ether.ended ≡ false
  pub quiet : IsQuiet now.ether
  pub odds : now.ether.odds ≡ before.ether.odds
  pub pushes : now.ether.pushes ≡ first + length slots
  pub counts : heard_count now.listener.state.counts + left_before (first + length slots) now.ether ≤ heard_count before.listener.state.counts + left_before (first + length slots) before.ether
  pub heard : (seed number given : ℕ) (member : ℕ → Option Bucket) → IsPlacesAfter seed number given before.ether → AreMembers form e slots board first recent member →
      (next : ℕ) × (given ≤ next) × IsPlacesAfter seed number next now.ether × (next ≡ length (places_to seed number before.ether (first + length slots)))
      × (now.listener ≡ hears (map (given_at member (places_to seed number before.ether (first + length slots))) (range_with_len given (next - given))) before.listener)

-- The reader can hear a cycle.
pub record CanHearPlaces (form : Form) (e : ℕ) (slots : List (Option ℕ)) (board : Board) (first : ℕ) (x : PlaceListener) : Type 0 where
  pub at : x.ether.pushes ≡ first
  pub fitting : AreFitting x.listener.air form e slots board
  pub opened : x.ether.ended ≡ false
  pub last : first + length slots ≤ MOST_PUSHES
  pub counts : heard_count x.listener.state.counts + left_before (first + length slots) x.ether < 2 ^ 64

-- Each reader heard the cycle.
abbrev pub AllHearPlaces : Form → ℕ → List (Option ℕ) → Board → ℕ → List (List ℕ) → List PlaceListener → List PlaceListener → Type 0
AllHearPlaces form e slots board first recent before now =
    (length now ≡ length before) × ((k : ℕ) (d : PlaceListener) → k < length before → HearsPlaces form e slots board first recent (get_or before k d) (get_or now k d))

-- The records of a cycle have the places from the first one on, and of those before it the last are kept.
pub record AreKeptFrom (first : ℕ) (records recent all : List (List ℕ)) : Type 0 where
  pub long : length recent ≡ KEPT_BUCKETS
  pub here : (s : ℕ) → s < length records → slice_index_or all (first + s) [] ≡ get_or records s []
  pub before : (p : ℕ) → p < first → first ≤ p + KEPT_BUCKETS → get_or recent (p % KEPT_BUCKETS) [] ≡ slice_index_or all p []

-- The reader heard its ether of all that was pushed.
abbrev pub HasEndedPlaces : List (List ℕ) → PlaceListener → PlaceListener → Type 0
HasEndedPlaces recent before now =
    (deck : Deck) (number : ℕ) (pushed : List (List ℕ)) → IsPlaceListener deck number pushed before → AreRecent pushed recent →
    now.listener ≡ hears (map bucket_in (heard_by deck.settings.seed number (odds_in deck) pushed)) (listener_of deck number)

-- So it is of each reader.
abbrev pub AllEndedPlaces : List (List ℕ) → List PlaceListener → List PlaceListener → Type 0
AllEndedPlaces recent before now =
    (length now ≡ length before) × ((k : ℕ) (d : PlaceListener) → k < length before → HasEndedPlaces recent (get_or before k d) (get_or now k d))
