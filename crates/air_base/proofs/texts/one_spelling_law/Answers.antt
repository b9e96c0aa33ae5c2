use Rattle.air_base.proofs.NumberLemmas.{one_spelling}
use Rattle.air_base.proofs.texts.one_spelling_law.Goals as goal

pub returns : goal.returns
returns c = one_spelling
