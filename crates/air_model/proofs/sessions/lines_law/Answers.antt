use Rattle.air_model.proofs.LineLemmas.{lines}
use Rattle.air_model.proofs.sessions.lines_law.Goals as goal

pub returns : goal.returns
returns c = record {
  turning = λ judge air reader L s. (lines judge air reader L s).turn;
  settling = λ judge air reader L s. (lines judge air reader L s).settle;
  hearing = λ judge air reader L s. (lines judge air reader L s).hear;
  ending = λ judge air reader L s. (lines judge air reader L s).end_query;
}
