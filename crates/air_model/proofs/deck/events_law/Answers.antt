use Rattle.air_model.proofs.DeckLemmas.{events}
use Rattle.air_model.proofs.deck.events_law.Goals as goal

pub returns : goal.returns
returns c = events
