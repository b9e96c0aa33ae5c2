-- The text has this fault, so no other is given.
use Rattle.text_pins.proofs.DeckLemmas.{tag_unknown, told}
use Rattle.text_pins.proofs.decks.record_before_the_faulty_one.Goals as goal

pub returns : goal.returns
returns c = told _ _ _ _ _ c.requires tag_unknown c.read_deck.ensures.deck c.read_deck.ensures.fault
