use Rattle.air_index.proofs.TapeLemmas.{history_read}
use Rattle.air_index.proofs.laws.records_back_law.Goals as goal

pub returns : goal.returns
returns c = history_read
