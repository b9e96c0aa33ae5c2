-- The text has this fault, so no other is given.
use Rattle.text_pins.proofs.DeckLemmas.{one_cycle, told}
use Rattle.text_pins.proofs.decks.replan_in_the_cycle_of_the_one_before.Goals as goal

pub returns : goal.returns
returns c = told _ _ _ _ _ c.requires one_cycle c.read_deck.ensures.deck c.read_deck.ensures.fault
