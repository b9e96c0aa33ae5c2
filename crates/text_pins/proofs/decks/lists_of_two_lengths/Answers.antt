-- The text has this fault, so no other is given.
use Rattle.text_pins.proofs.DeckLemmas.{told, two_lengths}
use Rattle.text_pins.proofs.decks.lists_of_two_lengths.Goals as goal

pub returns : goal.returns
returns c = told _ _ _ _ _ c.requires two_lengths c.read_deck.ensures.deck c.read_deck.ensures.fault
