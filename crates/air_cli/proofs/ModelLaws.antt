-- The laws of the model that the truth of printed sessions depends on, as the functions of their names state them.
use Rattle.std.specs.Prelude.{◌≡◌, ℕ, ◌<◌, List, length, map, All, Contains, Option, Some}
use Rattle.air_history.specs.declared.histories.Event.{Event}
use Rattle.air_history.specs.Histories.{EventFits}
use Rattle.air_history.specs.Tables.{BasesRead}
use Rattle.air_model.specs.Buckets.{Bucket, bucket_in, spelling}
use Rattle.air_model.specs.Decks.{Deck, IsDeck, IsLegal, ScriptFits, script_history, values_in}
use Rattle.air_model.specs.Ethers.{Odds, heard_list}
use Rattle.air_model.specs.Aired.{IsAired, air_of, buckets_of}
use Rattle.air_model.specs.AiredLaws.{CanAir}
use Rattle.air_model.specs.ReceiverLaws.{IsTrueSession}

abbrev pub ScriptLaw : Type 0
ScriptLaw = (deck : Deck) → ScriptFits deck → IsLegal deck (script_history deck)

abbrev pub EventsLaw : Type 0
EventsLaw = (deck : Deck) (H : List Event) → IsDeck deck → IsLegal deck H → All (EventFits (length deck.updates) (length deck.items)) H × All BasesRead H

abbrev pub BytesLaw : Type 0
BytesLaw = (deck : Deck) (H : List Event) (heard : List (List ℕ)) → CanAir deck H →
    All (Contains (map spelling (buckets_of (values_in deck) (air_of deck) H))) heard →
    IsAired (values_in deck) (air_of deck) H (map bucket_in heard) × All (λ bytes. (b : Bucket) × (bucket_in bytes ≡ Some b)) heard

abbrev pub HeardWasPushedLaw : Type 0
HeardWasPushedLaw = (odds : Odds) (words : List ℕ) (pushed : List (List ℕ)) → All (Contains pushed) (heard_list odds words pushed)

abbrev pub ReceiverLaw : Type 0
ReceiverLaw = (deck : Deck) (H : List Event) (r : ℕ) (heard : List (Option Bucket)) →
    IsDeck deck → r < length deck.readers → IsAired (values_in deck) (air_of deck) H heard → IsTrueSession deck H r heard
