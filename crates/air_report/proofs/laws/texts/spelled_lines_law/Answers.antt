use Rattle.air_report.proofs.TiedReports.{report_lines, spelled_report}
use Rattle.air_report.proofs.laws.texts.spelled_lines_law.Goals as goal

pub returns-clause-report : goal.returns-clause-report
returns-clause-report c = spelled_report

pub returns-clause-lines : goal.returns-clause-lines
returns-clause-lines c = report_lines
