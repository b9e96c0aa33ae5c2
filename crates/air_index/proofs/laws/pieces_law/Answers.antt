use Rattle.air_index.proofs.PieceLemmas.{pieces_are}
use Rattle.air_index.proofs.laws.pieces_law.Goals as goal

pub returns : goal.returns
returns c = pieces_are
