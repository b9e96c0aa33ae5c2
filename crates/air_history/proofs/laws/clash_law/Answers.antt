use Rattle.air_history.proofs.ClashLemmas.{clash_told}
use Rattle.air_history.proofs.laws.clash_law.Goals as goal

pub returns : goal.returns
returns c = clash_told
