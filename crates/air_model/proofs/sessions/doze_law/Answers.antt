use Rattle.air_model.proofs.DozeLemmas.{dozes, stays_settled}
use Rattle.air_model.proofs.sessions.doze_law.Goals as goal

pub returns : goal.returns
returns c = record {
  counts = λ judge air reader buckets s free all. dozes judge air reader buckets s all;
  settled = stays_settled;
}
