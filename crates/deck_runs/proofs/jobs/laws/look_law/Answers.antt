use Rattle.deck_runs.proofs.LookLemmas.{shows}
use Rattle.deck_runs.proofs.jobs.laws.look_law.Goals as goal

pub returns : goal.returns
returns c = shows
