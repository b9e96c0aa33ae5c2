use Rattle.disk_split.proofs.CostLemmas.{own_split}
use Rattle.disk_split.proofs.laws.some_split_law.Goals as goal

pub returns : goal.returns
returns c = λ deck made. own_split deck made
