-- The text has this fault, so no other is given.
use Rattle.text_pins.proofs.DeckLemmas.{too_old, told}
use Rattle.text_pins.proofs.decks.copies_one_cycle_too_old.Goals as goal

pub returns : goal.returns
returns c = told _ _ _ _ _ c.requires too_old c.read_deck.ensures.deck c.read_deck.ensures.fault
