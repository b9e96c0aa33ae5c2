use Rattle.air_model.specs.Reports.{report_text}
use Rattle.air_report.proofs.TiedReports.{one_spelled, printed_faultless, printed_spells}
use Rattle.air_report.proofs.laws.read_back_law.Goals as goal

pub returns-clause-faultless : goal.returns-clause-faultless
returns-clause-faultless c = printed_faultless

pub returns-clause-same : goal.returns-clause-same
returns-clause-same c = λ deck report is read of. one_spelled deck (report_text report) read.report report of.spelled (printed_spells deck report is)
