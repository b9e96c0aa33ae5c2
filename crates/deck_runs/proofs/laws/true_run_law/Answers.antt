use Rattle.deck_runs.proofs.HeardRunLemmas.{true_run}
use Rattle.deck_runs.proofs.laws.true_run_law.Goals as goal

pub returns : goal.returns
returns c = true_run c.one_history_law.ensures
