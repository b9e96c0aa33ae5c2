-- The text has this fault, so no other is given.
use Rattle.text_pins.proofs.DeckLemmas.{told, vectors_grouped}
use Rattle.text_pins.proofs.decks.group_under_datacycle.Goals as goal

pub returns : goal.returns
returns c = told _ _ _ _ _ c.requires vectors_grouped c.read_deck.ensures.deck c.read_deck.ensures.fault
