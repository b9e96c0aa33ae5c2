use Rattle.item_catalog.proofs.SpelledDecks.{deck_spelled}
use Rattle.item_catalog.proofs.deck_texts.deck_text_law.Goals as goal

pub returns : goal.returns
returns c = deck_spelled
