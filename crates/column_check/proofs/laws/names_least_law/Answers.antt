use Rattle.column_check.proofs.LeastLemmas.{names_least}
use Rattle.column_check.proofs.laws.names_least_law.Goals as goal

pub returns : goal.returns
returns c = names_least
