-- The text has this fault, so no other is given.
use Rattle.text_pins.proofs.DeckLemmas.{overdrawn, told}
use Rattle.text_pins.proofs.decks.earlier_script_records_forgotten.Goals as goal

pub returns : goal.returns
returns c = told _ _ _ _ _ c.requires overdrawn c.read_deck.ensures.deck c.read_deck.ensures.fault
