use Rattle.air_report.proofs.TiedReports.{one_spelled}
use Rattle.air_report.proofs.laws.reading.one_report_law.Goals as goal

pub returns : goal.returns
returns c = one_spelled
