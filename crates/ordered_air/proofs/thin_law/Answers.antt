use Rattle.ordered_air.proofs.ThinLemmas.{thin}
use Rattle.ordered_air.proofs.thin_law.Goals as goal

pub returns : goal.returns
returns c = thin
