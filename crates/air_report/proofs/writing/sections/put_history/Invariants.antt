use Rattle.std.proofs.Common.{◌≡◌, ◌++◌, map, take}
use Rattle.air_model.specs.Reports.{event_row}
use Rattle.air_model.specs.Rows.{rows_text}
use Rattle.air_report.specs.RowWriters.{IsRowWriter, written_text}
use Rattle.air_report.proofs.writing.sections.put_history.Given as goal

abbrev pub invariant-loop-event : goal.invariant-loop-event
invariant-loop-event l = IsRowWriter l.wtr × (written_text l.wtr ≡ written_text l.fn.wtr ++ rows_text (map event_row (take l.event-index l.events)))
