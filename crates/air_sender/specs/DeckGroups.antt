-- The board by groups that a deck's cycles are aired from.
use Rattle.std.specs.Prelude.{◌≡◌, ◌<◌, Option, Some, None, length}
use Rattle.air_model.specs.Decks.{Deck}
use Rattle.group_matrix.specs.GroupBoards.{GroupBoard}

-- A deck with groups has a board by groups, of as many items in groups of as many as the deck says; a deck without has none.
abbrev pub HasGroups : Deck → Option GroupBoard → Type 0
HasGroups deck None = deck.settings.group ≡ 0
HasGroups deck (Some groups) = (0 < deck.settings.group) × (groups.group ≡ deck.settings.group) × (length groups.values ≡ length deck.items)
