use Rattle.std.proofs.Common.{inl, inr}
use Rattle.air_report.specs.ReportLines.{report_in}
use Rattle.air_report.proofs.TiedReports.{spelled_report, spells_or_faulty}
use Rattle.air_report.proofs.laws.reading.report_or_fault_law.Goals as goal

pub returns : goal.returns
returns c = λ deck text. elim (spells_or_faulty deck text) [
  | inl spelled ↦ inl (report_in deck spelled.0, spelled_report deck text spelled.0 spelled.1)
  | inr found ↦ inr (found.0, found.1, found.3)
]
