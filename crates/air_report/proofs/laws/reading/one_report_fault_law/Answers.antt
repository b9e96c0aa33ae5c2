use Rattle.air_report.proofs.TiedReports.{one_fault}
use Rattle.air_report.proofs.laws.reading.one_report_fault_law.Goals as goal

pub returns : goal.returns
returns c = one_fault
