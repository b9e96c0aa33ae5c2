use Rattle.group_matrix.proofs.GroupLemmas.{of_events}
use Rattle.group_matrix.proofs.laws.fill_law.Goals as goal

pub returns : goal.returns
returns c = of_events
