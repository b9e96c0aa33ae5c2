-- For private steps alone. A history whose events are heard one after another.
use Rattle.std.specs.Prelude.{◌≡◌, ◌≤◌, ◌++◌, ◌∷◌, [], List, length}
use Rattle.air_history.specs.declared.histories.Event.{Event}
use Rattle.air_history.specs.Boards.{Board, board_of}
use Rattle.air_model.specs.AiredLaws.{CanAir}
use Rattle.air_model.specs.Decks.{Deck, values_in}
use Rattle.air_sender.specs.AiredBytes.{aired_bytes}
use Rattle.listeners.specs.declared.hearers.Hearers.{Hearers}
use Rattle.listeners.specs.declared.readers.TheConstants.{MOST_TAPE_RECORDS}
use Rattle.listeners.specs.Hearings.{AreHearing}

-- After these events this one can be aired, with few records in all. It leaves this board, and the readers were given what was aired before it.
pub record CanHearNext (deck : Deck) (G : List Event) (e : Event) (board : Board) (hearers : Hearers) : Type 0 where
  pub can : CanAir deck (G ++ e ∷ [])
  pub few : length (aired_bytes deck (G ++ e ∷ [])) ≤ MOST_TAPE_RECORDS
  pub stepped : board ≡ board_of (values_in deck) (G ++ e ∷ [])
  pub heard : AreHearing deck (aired_bytes deck G) hearers
