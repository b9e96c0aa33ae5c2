-- A run of a deck on threads.
use Rattle.std.specs.Prelude.{List}
use Rattle.air_history.specs.declared.histories.Event.{Event}
use Rattle.air_model.specs.Decks.{Deck, IsWhole}
use Rattle.air_model.specs.declared.reports.LookLine.{LookLine}
use Rattle.air_model.specs.MonitorSights.{AreGlances, AreLooks}

-- A run: a history; the batches that were published, as the publisher's note at the end tells them (those of `AirsByBatches`);
-- and what monitors saw, in glances during the run and in looks at its end.
pub record Run : Type 0 where
  pub history : List Event
  pub batches : List (List Event)
  pub glances : List LookLine
  pub looks : List LookLine

-- A run is the deck's if its history commits all updates of the deck, each updater's in order, and starts the deck's cycles,
-- and if the monitors saw that history.
pub record IsRun (deck : Deck) (run : Run) : Type 0 where
  pub whole : IsWhole deck run.history
  pub glances : AreGlances deck run.history run.glances
  pub looks : AreLooks deck run.history run.looks
