use Rattle.air_report.proofs.TiedReports.{report_or_fault}
use Rattle.air_report.proofs.laws.reading.not_both_reports_law.Goals as goal

pub returns : goal.returns
returns c = report_or_fault
