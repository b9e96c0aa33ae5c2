use Rattle.air_report.proofs.HistoryRows.{one_history}
use Rattle.air_report.proofs.laws.texts.one_history_law.Goals as goal

pub returns : goal.returns
returns c = one_history
