use Rattle.air_model.proofs.DeckLemmas.{air}
use Rattle.air_model.proofs.deck.air_law.Goals as goal

pub returns : goal.returns
returns c = air
