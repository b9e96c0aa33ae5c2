use Rattle.air_report.proofs.MadeReports.{is_report, keeps}
use Rattle.air_report.proofs.reading.read_report.Goals as goal

pub returns-clause-report : goal.returns-clause-report
returns-clause-report c = is_report c.args.deck.now c.args.bytes.now c.in_ok-lines.lines c.in_ok-report.report c.in_ok-lines.ensures.lines c.in_ok-report.ensures

pub returns-clause-kept : goal.returns-clause-kept
returns-clause-kept c = keeps c.args.deck.now c.args.bytes.now c.in_ok-lines.lines c.in_ok-report.report c.in_ok-lines.ensures.lines c.in_ok-report.ensures c.requires.limit
