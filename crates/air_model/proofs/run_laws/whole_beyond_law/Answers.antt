use Rattle.air_model.proofs.BeyondLemmas.{whole_beyond}
use Rattle.air_model.proofs.run_laws.whole_beyond_law.Goals as goal

pub returns : goal.returns
returns c = whole_beyond
