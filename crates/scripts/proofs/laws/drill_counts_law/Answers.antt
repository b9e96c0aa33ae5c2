use Rattle.scripts.proofs.DrillCounts.{drill_sums}
use Rattle.scripts.proofs.laws.drill_counts_law.Goals as goal

pub returns : goal.returns
returns c = drill_sums
