use Rattle.air_report.proofs.TiedReports.{fault_told, told_fault}
use Rattle.air_report.proofs.laws.texts.told_fault_law.Goals as goal

pub returns : goal.returns
returns c = λ deck text row kind. (fault_told deck text row kind, told_fault deck text row kind)
