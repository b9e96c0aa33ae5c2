use Rattle.air_model.proofs.AiredLemmas.{own_buckets}
use Rattle.air_model.proofs.aired.own_buckets_law.Goals as goal

pub returns : goal.returns
returns c = own_buckets
