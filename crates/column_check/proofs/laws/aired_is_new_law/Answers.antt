use Rattle.column_check.proofs.NewLemmas.{aired_is_new, capped_is_new}
use Rattle.column_check.proofs.laws.aired_is_new_law.Goals as goal

pub returns-clause-capped : goal.returns-clause-capped
returns-clause-capped c = capped_is_new

pub returns-clause-full : goal.returns-clause-full
returns-clause-full c = aired_is_new
