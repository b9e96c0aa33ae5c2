-- How long the tape of a run is, and when that is too long. The law is `run_length_law`.
use Rattle.std.specs.Prelude.{◌≡◌, ◌<◌, ℕ, length, replicate}
use Rattle.air_base.specs.declared.limits.TheConstants.{MOST_TAPE_BYTES}
use Rattle.air_history.specs.declared.histories.Event.TheVariants.{Start}
use Rattle.air_model.specs.Decks.{Deck}
use Rattle.air_model.specs.Outputs.{run_tape}

-- The number of bytes of the tape of each run of a deck: the tape of as many starts as the deck has cycles.
unfoldable pub run_tape_len : Deck → ℕ
run_tape_len deck = length (run_tape deck (replicate deck.settings.cycles Start))

-- The tape of each run of the deck would have this number of bytes, more than a tape may have.
pub record IsLongRun (deck : Deck) (bytes : ℕ) : Type 0 where
  pub counted : bytes ≡ run_tape_len deck
  pub above : MOST_TAPE_BYTES < bytes
