use Rattle.air_model.proofs.BatchLemmas.{airs_by_batches}
use Rattle.air_model.proofs.run_laws.batches_law.Goals as goal

pub returns : goal.returns
returns c = airs_by_batches
