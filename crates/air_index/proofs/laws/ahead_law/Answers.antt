use Rattle.air_index.proofs.AheadLemmas.{ahead_in_deck}
use Rattle.air_index.proofs.laws.ahead_law.Goals as goal

pub returns : goal.returns
returns c = ahead_in_deck
