use Rattle.short_columns.proofs.ByteLemmas.{spelling_back}
use Rattle.short_columns.proofs.laws.spelling_law.Goals as goal

pub returns : goal.returns
returns c = spelling_back
