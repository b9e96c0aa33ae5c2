use Rattle.air_model.proofs.bucket.reading_law.Goals as goal
use Rattle.air_model.proofs.BucketLemmas.{reading_agrees}

pub returns : goal.returns
returns c = reading_agrees
