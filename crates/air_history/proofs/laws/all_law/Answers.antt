use Rattle.air_history.proofs.OneGroupLemmas.{all_newer, all_older}
use Rattle.air_history.proofs.laws.all_law.Goals as goal

pub returns-clause-older : goal.returns-clause-older
returns-clause-older c = all_older

pub returns-clause-newer : goal.returns-clause-newer
returns-clause-newer c = all_newer
