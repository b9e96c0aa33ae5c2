use Rattle.air_model.proofs.AiringLemmas.{more_buckets, same_buckets}
use Rattle.air_model.proofs.run_laws.more_buckets_law.Goals as goal

pub returns-clause-more : goal.returns-clause-more
returns-clause-more c = more_buckets

pub returns-clause-same : goal.returns-clause-same
returns-clause-same c = same_buckets
