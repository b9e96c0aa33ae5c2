-- What the receivers of a deck tell, for every list that some history aired: the definitions of `receiver_law` of `sessions`.
-- `script`, `tune`, `run` and `listen` print such sessions; what is heard may be lost, repeated and reordered.
use Rattle.std.specs.Prelude.{◌≡◌, ℕ, List, length, All, Option}
use Rattle.air_base.specs.declared.verdicts.Policy.TheVariants.{FMatrix}
use Rattle.air_history.specs.declared.histories.Event.{Event}
use Rattle.air_model.specs.Buckets.{Bucket}
use Rattle.air_model.specs.Decks.{Deck, values_in}
use Rattle.air_model.specs.Aired.{scheme_in, air_of}
use Rattle.air_model.specs.Judges.{Judge, by_entries, by_history}
use Rattle.air_model.specs.Sessions.{State, reader_of, session}
use Rattle.air_model.specs.SessionLaws.{IsExactLine, IsSoundLine}

-- The session of the deck's reader with this number.
abbrev pub session_of : Judge → Deck → ℕ → List (Option Bucket) → State
session_of judge deck r heard = session judge (air_of deck) (reader_of deck r) heard

-- What the deck's reader decides by the entries is what the history says: the session is the one by the history, each line is
-- sound, and under F-Matrix without groups each verdict is exact. That each line is the reader's is `reader_law`, which holds
-- for every session.
pub record IsTrueSession (deck : Deck) (H : List Event) (r : ℕ) (heard : List (Option Bucket)) : Type 0 where
  pub same : session_of (by_entries (scheme_in deck)) deck r heard ≡ session_of (by_history (scheme_in deck) (length deck.items) (values_in deck) H) deck r heard
  pub sound : All (IsSoundLine (values_in deck) deck.settings.policy H) (session_of (by_entries (scheme_in deck)) deck r heard).lines
  pub exact : deck.settings.policy ≡ FMatrix → deck.settings.group ≡ 0 → All (IsExactLine deck.settings.version H (reader_of deck r)) (session_of (by_entries (scheme_in deck)) deck r heard).lines
