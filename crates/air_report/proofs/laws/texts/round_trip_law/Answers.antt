use Rattle.air_report.proofs.TiedReports.{printed_lines, printed_spells}
use Rattle.air_report.proofs.laws.texts.round_trip_law.Goals as goal

pub returns-clause-report : goal.returns-clause-report
returns-clause-report c = printed_spells

pub returns-clause-lines : goal.returns-clause-lines
returns-clause-lines c = printed_lines
