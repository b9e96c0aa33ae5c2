use Rattle.air_index.proofs.NearLemmas.{found_within}
use Rattle.air_index.proofs.laws.bound_law.Goals as goal

pub returns : goal.returns
returns c = λ deck cycles buckets i p opens place cycle value made within short plain few e. found_within deck made within short plain cycles buckets i p opens place cycle value few e
