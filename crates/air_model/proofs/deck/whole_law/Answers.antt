use Rattle.air_model.proofs.LegalLemmas.{whole}
use Rattle.air_model.proofs.deck.whole_law.Goals as goal

pub returns : goal.returns
returns c = whole
