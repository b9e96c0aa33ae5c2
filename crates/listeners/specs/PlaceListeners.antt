-- What contracts see of listeners that hear through ethers without bytes, and what they have heard of a pushed list.
use Rattle.std.specs.Prelude.{◌≡◌, ℕ, ◌+◌, ◌*◌, ◌%◌, ◌<◌, ◌≤◌, Bool, false, List, [], Option, length, map, get_or, slice_index_or}
use Rattle.std.specs.List.{range_with_len}
use Rattle.air_ether.specs.declared.ether.TheConstants.{MOST_DUE}
use Rattle.air_ether.specs.HeardPlaces.{IsPlacesAfter, places_of}
use Rattle.air_ether.specs.HeardSoFar.{IsQuiet, left_of}
use Rattle.air_model.specs.Buckets.{Bucket, bucket_in}
use Rattle.air_model.specs.Decks.{Deck}
use Rattle.air_model.specs.Outputs.{odds_in}
use Rattle.receiver_core.specs.Receivers.{heard_count}
use Rattle.listeners.specs.declared.last_buckets.TheConstants.{KEPT_BUCKETS}
use Rattle.listeners.specs.declared.place_listeners.PlaceListener.{PlaceListener}
use Rattle.listeners.specs.declared.place_hearers.PlaceHearers.{PlaceHearers}
use Rattle.listeners.specs.Listeners.{hears, listener_of}

-- The member that was pushed at a place.
abbrev pub pushed_at : List (List ℕ) → ℕ → Option Bucket
pushed_at pushed place = bucket_in (slice_index_or pushed place [])

-- The member that is heard after k others, of what is heard at these places.
abbrev pub given_at : (ℕ → Option Bucket) → List ℕ → ℕ → Option Bucket
given_at member places k = member (get_or places k 0)

-- The places of a pushed list that are due for the deck's reader of a number, before or after the end.
abbrev pub places_for : Deck → ℕ → List (List ℕ) → Bool → List ℕ
places_for deck number pushed ended = places_of deck.settings.seed number (odds_in deck) (length pushed) ended

-- The deck's reader of a number has the ether of the deck's seed and odds and of its own number; this list was pushed, and it heard what is
-- due of it, each member by its place.
pub record IsPlaceListener (deck : Deck) (number : ℕ) (pushed : List (List ℕ)) (x : PlaceListener) : Type 0 where
  pub opened : x.ether.ended ≡ false
  pub quiet : IsQuiet x.ether
  pub pushes : x.ether.pushes ≡ length pushed
  pub odds : x.ether.odds ≡ odds_in deck
  pub counts : heard_count x.listener.state.counts + left_of x.ether ≤ (MOST_DUE + 1) * (x.ether.pushes + 1)
  pub follows : IsPlacesAfter deck.settings.seed number (length (places_for deck number pushed false)) x.ether
  pub heard : x.listener ≡ hears (map (given_at (pushed_at pushed) (places_for deck number pushed false)) (range_with_len 0 (length (places_for deck number pushed false)))) (listener_of deck number)

-- The last of the pushed buckets are kept, each at its place modulo their number.
abbrev pub AreRecent : List (List ℕ) → List (List ℕ) → Type 0
AreRecent pushed recent = (p : ℕ) → p < length pushed → length pushed ≤ p + KEPT_BUCKETS → get_or recent (p % KEPT_BUCKETS) [] ≡ slice_index_or pushed p []

-- Each of the deck's readers was given these records through its own ether.
abbrev pub AreGivenEach : Deck → List (List ℕ) → List PlaceListener → Type 0
AreGivenEach deck pushed readers = (k : ℕ) (d : PlaceListener) → k < length readers → IsPlaceListener deck k pushed (get_or readers k d)

-- So it is of all readers of the deck, and the last of the records are kept.
pub record AreGivenPlaces (deck : Deck) (pushed : List (List ℕ)) (h : PlaceHearers) : Type 0 where
  pub long : length h.readers.items ≡ length deck.readers
  pub each : AreGivenEach deck pushed h.readers.items
  pub pushes : h.pushes ≡ length pushed
  pub sized : length h.recent ≡ KEPT_BUCKETS
  pub recent : AreRecent pushed h.recent
