use Rattle.live_replay.proofs.TrueReports.{judged_session}
use Rattle.live_replay.proofs.laws.session_law.Goals as goal

pub returns : goal.returns
returns c = λ deck H r heard is. judged_session deck H r heard is
