use Rattle.air_model.proofs.ItemLemmas.{items_aired}
use Rattle.air_model.proofs.run_laws.aired_items_law.Goals as goal

pub returns : goal.returns
returns c = items_aired
