-- The text has this fault, so no other is given.
use Rattle.text_pins.proofs.DeckLemmas.{sizes_apart, told}
use Rattle.text_pins.proofs.decks.greatest_frequency_refused.Goals as goal

pub returns : goal.returns
returns c = told _ _ _ _ _ c.requires sizes_apart c.read_deck.ensures.deck c.read_deck.ensures.fault
