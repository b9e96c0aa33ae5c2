use Rattle.air_history.proofs.ClashLemmas.{groups_told}
use Rattle.air_history.proofs.laws.group_clash_law.Goals as goal

pub returns : goal.returns
returns c = groups_told
