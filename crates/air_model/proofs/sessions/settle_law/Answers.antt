use Rattle.air_model.proofs.SettleLemmas.{settle_is}
use Rattle.air_model.proofs.sessions.settle_law.Goals as goal

pub returns : goal.returns
returns c = record {
  settled = λ judge air reader s. (settle_is judge air reader s).settled;
  stays = λ judge air reader s. (settle_is judge air reader s).stays;
  goes_on = λ judge air reader s. (settle_is judge air reader s).goes_on;
}
