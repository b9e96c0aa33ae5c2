use Rattle.air_model.proofs.RowLemmas.{one_rows}
use Rattle.air_model.proofs.deck.one_rows_law.Goals as goal

pub returns : goal.returns
returns c = one_rows
