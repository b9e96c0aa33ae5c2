use Rattle.live_replay.specs.Audits.{findings}
use Rattle.live_replay.proofs.FindingTexts.{none_differ}
use Rattle.live_replay.proofs.audits.reports.shows_audit_truth.Goals as goal

pub returns : goal.returns
returns c = λ read.
    let deck = c.args.deck.now in
    let H = read.report.history in
    record {
      verdicts = c.agrees_law.ensures.verdicts deck H;
      looks = c.agrees_law.ensures.looks deck H;
      judged = λ r heard k d below. (c.agrees_law.ensures.verdicts deck H _).1 (c.session_law.ensures deck H r heard c.shows_well_made.ensures.made k d below);
      sessions = λ heard same glances looks. c.true_report_law.ensures deck read heard c.shows_well_made.ensures.made same glances looks;
      none = none_differ (findings deck read);
    }
