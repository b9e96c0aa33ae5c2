-- The numbers of the kinds of a report's fault. If several kinds apply to a record, the one with the least number is answered.
use Rattle.std.specs.Prelude.{ℕ}
use Rattle.air_report.specs.declared.reading.kinds.ReportFaultKind.{ReportFaultKind}
use Rattle.air_report.specs.declared.reading.kinds.ReportFaultKind.TheVariants as fault

-- The number of a kind.
abbrev pub report_kind_number : ReportFaultKind → ℕ
report_kind_number fault.Fields = 1
report_kind_number fault.Form = 2
report_kind_number fault.Tag = 3
report_kind_number fault.Order = 4
report_kind_number fault.Update = 5
report_kind_number fault.Deck = 6
report_kind_number fault.Cycle = 7
