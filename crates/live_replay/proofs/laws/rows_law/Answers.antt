use Rattle.live_replay.proofs.RowFindings.{by_rows}
use Rattle.live_replay.proofs.laws.rows_law.Goals as goal

pub returns : goal.returns
returns c = λ deck text read is. by_rows deck text read is
