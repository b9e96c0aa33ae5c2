use Rattle.live_replay.proofs.FindingLemmas.{agrees, look_agrees}
use Rattle.live_replay.proofs.laws.agrees_law.Goals as goal

pub returns : goal.returns
returns c = record { verdicts = λ deck H line. agrees deck H line; looks = λ deck H line. look_agrees deck H line }
