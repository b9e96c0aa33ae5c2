use Rattle.air_history.proofs.OneGroupLemmas.{one_aired, one_clash}
use Rattle.air_history.proofs.laws.one_law.Goals as goal

pub returns-clause-clash : goal.returns-clause-clash
returns-clause-clash c = one_clash

pub returns-clause-aired : goal.returns-clause-aired
returns-clause-aired c = one_aired
