use Rattle.receiver_core.proofs.SettlingLemmas.{on_the_way}
use Rattle.receiver_core.proofs.laws.step_law.Goals as goal

pub returns : goal.returns
returns c = record {
  steps = λ judge air reader s. (on_the_way judge air reader s).steps;
  no_line = λ judge air reader s. (on_the_way judge air reader s).no_line;
}
