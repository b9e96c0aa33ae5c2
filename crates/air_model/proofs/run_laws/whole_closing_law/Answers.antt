use Rattle.air_model.proofs.ClosingLemmas.{whole_closing}
use Rattle.air_model.proofs.run_laws.whole_closing_law.Goals as goal

pub returns : goal.returns
returns c = whole_closing
