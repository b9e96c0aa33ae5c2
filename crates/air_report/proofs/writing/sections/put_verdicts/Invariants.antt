use Rattle.std.proofs.Common.{◌≡◌, ◌++◌, map, take}
use Rattle.air_model.specs.Reports.{verdict_row}
use Rattle.air_model.specs.Rows.{rows_text}
use Rattle.air_report.specs.RowWriters.{IsRowWriter, written_text}
use Rattle.air_report.proofs.writing.sections.put_verdicts.Given as goal

abbrev pub invariant-loop-line : goal.invariant-loop-line
invariant-loop-line l = IsRowWriter l.wtr × (written_text l.wtr ≡ written_text l.fn.wtr ++ rows_text (map verdict_row (take l.line-index l.lines)))
