use Rattle.listeners.proofs.HearLemmas.{pieces}
use Rattle.listeners.proofs.laws.pieces_law.Goals as goal

pub returns : goal.returns
returns c = pieces
