use Rattle.disk_split.proofs.BestLemmas.{one_best}
use Rattle.disk_split.proofs.laws.best_law.Goals as goal

pub returns : goal.returns
returns c = λ deck sizes others one two. one_best deck sizes others one two
