use Rattle.air_index.proofs.TapeLemmas.{beam_carries}
use Rattle.air_index.proofs.laws.beam_law.Goals as goal

pub returns : goal.returns
returns c = beam_carries
