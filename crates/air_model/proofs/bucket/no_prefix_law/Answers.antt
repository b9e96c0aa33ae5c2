use Rattle.air_model.proofs.bucket.no_prefix_law.Goals as goal
use Rattle.air_model.proofs.BucketLemmas.{no_prefix}

pub returns : goal.returns
returns c = no_prefix
