use Rattle.std.proofs.Common.{◌≡◌, ◌+◌, ◌++◌, ℕ, List, length}
use Rattle.item_catalog.specs.FirstFaults.{NoneBefore}
use Rattle.item_catalog.specs.Records.{records_of}
use Rattle.air_report.specs.LineFaults.{line_kinds_at, spelled_lines}
use Rattle.air_report.specs.ReportLines.{sections_of}
use Rattle.air_report.proofs.reading.texts.read_lines.Given as goal

-- The reader is after some records, no kind applies to any of them, and the draft has the lines that they spell.
abbrev pub invariant-loop-row : goal.invariant-loop-row
invariant-loop-row l = (rows : List (List (List ℕ))) × (records_of l.fn.bytes ≡ rows ++ l.records) × NoneBefore (line_kinds_at l.fn.deck rows) (length rows)
    × (l.draft ≡ sections_of (spelled_lines l.fn.deck.settings.version rows)) × (l.row ≡ length rows + 1)
