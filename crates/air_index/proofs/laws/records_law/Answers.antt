use Rattle.air_index.proofs.CountLemmas.{piece_records}
use Rattle.air_index.proofs.laws.records_law.Goals as goal

pub returns : goal.returns
returns c = piece_records
