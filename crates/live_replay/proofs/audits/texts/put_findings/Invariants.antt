use Rattle.std.proofs.Common.{◌≡◌, ◌++◌, map, take}
use Rattle.air_model.specs.Rows.{rows_text}
use Rattle.air_report.specs.RowWriters.{IsRowWriter, written_text}
use Rattle.live_replay.specs.FindingTexts.{finding_row}
use Rattle.live_replay.proofs.audits.texts.put_findings.Given as goal

abbrev pub invariant-loop-finding : goal.invariant-loop-finding
invariant-loop-finding l = IsRowWriter l.wtr × (written_text l.wtr ≡ written_text l.fn.wtr ++ rows_text (map finding_row (take l.finding-index l.found)))
