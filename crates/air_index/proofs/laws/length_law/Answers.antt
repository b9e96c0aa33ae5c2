use Rattle.air_index.proofs.CountLemmas.{history_len}
use Rattle.air_index.proofs.laws.length_law.Goals as goal

pub returns : goal.returns
returns c = history_len
