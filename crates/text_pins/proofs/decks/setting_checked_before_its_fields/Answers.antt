-- The text has this fault, so no other is given.
use Rattle.text_pins.proofs.DeckLemmas.{field_missing, told}
use Rattle.text_pins.proofs.decks.setting_checked_before_its_fields.Goals as goal

pub returns : goal.returns
returns c = told _ _ _ _ _ c.requires field_missing c.read_deck.ensures.deck c.read_deck.ensures.fault
