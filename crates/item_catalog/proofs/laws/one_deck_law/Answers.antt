use Rattle.item_catalog.proofs.GrammarLemmas.{one_deck}
use Rattle.item_catalog.proofs.laws.one_deck_law.Goals as goal

pub returns : goal.returns
returns c = one_deck
