use Rattle.air_model.proofs.LegalLemmas.{legal}
use Rattle.air_model.proofs.deck.legal_law.Goals as goal

pub returns : goal.returns
returns c = legal
