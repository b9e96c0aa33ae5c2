use Rattle.std.proofs.Common.{All, subst, sym}
use Rattle.live_replay.specs.FindingLaws.{GivesVerdict}
use Rattle.live_replay.proofs.TrueReports.{judged_lines, none_differ}
use Rattle.live_replay.proofs.laws.true_report_law.Goals as goal

pub returns : goal.returns
returns c = λ deck read heard is same glances looks.
    let H = read.report.history in
    none_differ deck read (subst (All (GivesVerdict deck H)) (sym same) (judged_lines deck H heard is)) glances looks
