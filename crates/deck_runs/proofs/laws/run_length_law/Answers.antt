use Rattle.deck_runs.proofs.HeardRunLemmas.{run_length, run_sum}
use Rattle.deck_runs.proofs.laws.run_length_law.Goals as goal

pub returns : goal.returns
returns c = record { same = run_length; sum = run_sum }
