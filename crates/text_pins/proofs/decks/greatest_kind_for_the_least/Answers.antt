-- The text has this fault, so no other is given.
use Rattle.text_pins.proofs.DeckLemmas.{wrong_id, told}
use Rattle.text_pins.proofs.decks.greatest_kind_for_the_least.Goals as goal

pub returns : goal.returns
returns c = told _ _ _ _ _ c.requires wrong_id c.read_deck.ensures.deck c.read_deck.ensures.fault
