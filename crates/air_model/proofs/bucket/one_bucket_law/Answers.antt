use Rattle.air_model.proofs.bucket.one_bucket_law.Goals as goal
use Rattle.air_model.proofs.BucketLemmas.{one_bucket}

pub returns : goal.returns
returns c = one_bucket
