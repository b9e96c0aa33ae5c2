use Rattle.air_index.proofs.LawLemmas.{few_opens}
use Rattle.air_index.proofs.laws.opens_law.Goals as goal

pub returns : goal.returns
returns c = few_opens
