use Rattle.item_catalog.proofs.GrammarLemmas.{no_fault}
use Rattle.item_catalog.proofs.laws.not_both_law.Goals as goal

pub returns : goal.returns
returns c = no_fault
