use Rattle.air_history.proofs.RepeatLemmas.{rules}
use Rattle.air_history.proofs.laws.rules_law.Goals as goal

pub returns : goal.returns
returns c = rules
