-- What becomes of a deck's readers, who hear cycle by cycle what is aired: what they were given so far.
use Rattle.std.specs.Prelude.{◌≡◌, ◌≤◌, ◌++◌, ◌∷◌, [], ℕ, List, length, map}
use Rattle.std.specs.List.{range_with_len}
use Rattle.air_history.specs.declared.histories.Event.{Event}
use Rattle.air_history.specs.declared.histories.Event.TheVariants.{Start}
use Rattle.air_model.specs.AiredLaws.{CanAir}
use Rattle.air_model.specs.Buckets.{bucket_in}
use Rattle.air_model.specs.Decks.{Deck}
use Rattle.air_sender.specs.AiredBytes.{aired_bytes}
use Rattle.listeners.specs.declared.hearers.Hearers.{Hearers}
use Rattle.listeners.specs.declared.hearers.Hearers.TheVariants.{Apart, Together}
use Rattle.listeners.specs.declared.readers.TheConstants.{MOST_TAPE_RECORDS}
use Rattle.listeners.specs.Listeners.{Listener, hears, listener_of}
use Rattle.listeners.specs.PlaceListeners.{AreGivenPlaces}

-- Nothing of what is aired is lost, heard again or delayed.
pub record IsPerfect (deck : Deck) : Type 0 where
  pub loss : deck.settings.loss ≡ 0
  pub again : deck.settings.again ≡ 0
  pub late : deck.settings.late ≡ 0

-- Nothing is lost, heard again or delayed, and each of the deck's readers heard these records.
pub record AreTogether (deck : Deck) (pushed : List (List ℕ)) (listeners : List Listener) : Type 0 where
  pub clear : IsPerfect deck
  pub heard : listeners ≡ map (hears (map bucket_in pushed)) (map (listener_of deck) (range_with_len 0 (length deck.readers)))

-- The deck's readers were given these records, together or each through its own ether.
abbrev pub AreHearing : Deck → List (List ℕ) → Hearers → Type 0
AreHearing deck pushed (Together listeners) = AreTogether deck pushed listeners.items
AreHearing deck pushed (Apart hearers) = AreGivenPlaces deck pushed hearers

-- The cycle that starts after these events can be aired, the readers were given what was aired before, and what they are given then is
-- few records.
pub record CanHearAfter (deck : Deck) (G : List Event) (hearers : Hearers) : Type 0 where
  pub can : CanAir deck (G ++ Start ∷ [])
  pub few : length (aired_bytes deck (G ++ Start ∷ [])) ≤ MOST_TAPE_RECORDS
  pub heard : AreHearing deck (aired_bytes deck G) hearers
