use Rattle.air_index.proofs.TapeSizeLemmas.{piece_len}
use Rattle.air_index.proofs.laws.size_law.Goals as goal

pub returns : goal.returns
returns c = piece_len
