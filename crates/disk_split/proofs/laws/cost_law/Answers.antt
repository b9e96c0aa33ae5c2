use Rattle.disk_split.proofs.CostLemmas.{cost_is}
use Rattle.disk_split.proofs.laws.cost_law.Goals as goal

pub returns : goal.returns
returns c = λ deck sizes made split. cost_is deck sizes made split
