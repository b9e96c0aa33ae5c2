-- The row numbers of the records that spell the lines of a section.
use Rattle.std.specs.Prelude.{ℕ, List, Option, None, option_map, Result, Ok, Err}
use Rattle.std.specs.List.{enumerate_from, filter_map}
use Rattle.air_report.specs.LineTexts.{spelled_line}
use Rattle.air_report.specs.declared.reading.kinds.ReportFaultKind.{ReportFaultKind}
use Rattle.air_report.specs.declared.reading.lines.ReportLine.{ReportLine}

-- The row number of a record, if what it spells is a line of a section.
abbrev pub row_in : {L : Type 0} → (ReportLine → Option L) → ℕ → Result ReportLine ReportFaultKind → Option ℕ
row_in its row (Ok line) = option_map (λ x. row) (its line)
row_in its row (Err kind) = None

-- The row numbers of the records that spell the lines of a section in this version, in order, counted from 1.
abbrev pub rows_of : {L : Type 0} → (ReportLine → Option L) → ℕ → List (List (List ℕ)) → List ℕ
rows_of its version records = filter_map (λ p. row_in its p.0 (spelled_line version p.1)) (enumerate_from 1 records)
