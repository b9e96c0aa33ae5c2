-- The definition of the laws that a history's buckets have bytes, `range_law` and `bytes_law` of `aired`.
use Rattle.std.specs.Prelude.{◌^◌, ◌<◌, ◌≤◌, List, length, All}
use Rattle.air_history.specs.declared.histories.Event.{Event}
use Rattle.air_history.specs.Histories.{starts}
use Rattle.air_model.specs.Decks.{Deck, IsDeck, IsLegal}
use Rattle.air_model.specs.Aired.{air_of}

-- A history can be aired with a deck: it is legal, the deck is well made, and cycles and slots fit their fields.
pub record CanAir (deck : Deck) (H : List Event) : Type 0 where
  pub made : IsDeck deck
  pub legal : IsLegal deck H
  pub cycles : starts H < 2 ^ 32
  pub slots : All (λ slots. length slots ≤ 2 ^ 16) ((air_of deck).slots)
