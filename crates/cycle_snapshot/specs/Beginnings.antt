-- Beginnings of the list of batches that a publisher publishes.
use Rattle.std.specs.Prelude.{List}
use Rattle.logbook.specs.Pages.{Book}
use Rattle.air_history.specs.declared.histories.Event.{Event}

-- What identifies a publisher. Each publisher has a book of its own.
abbrev pub PublisherId : Type 0
PublisherId = Book

-- A beginning of a publisher's list: the publisher, and the batches.
pub record Beginning : Type 0 where
  pub publisher : PublisherId
  pub batches : List (List Event)
