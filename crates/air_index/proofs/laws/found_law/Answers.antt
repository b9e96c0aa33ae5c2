use Rattle.air_index.proofs.LawLemmas.{found_there}
use Rattle.air_index.proofs.laws.found_law.Goals as goal

pub returns : goal.returns
returns c = found_there
