use Rattle.item_catalog.proofs.DrillTexts.{drill_spelled}
use Rattle.item_catalog.proofs.deck_texts.drill_text_law.Goals as goal

pub returns : goal.returns
returns c = drill_spelled
