-- Which lines a report's text spells, and which fault it has: by what each record spells, one after the other. `ReportGrammar` says the same by the
-- rows that a report is printed as.
--
-- A text spells lines if no kind of fault applies to any of its records. Else its fault is that of the first record to which some kind applies, with
-- the least of these kinds. By the laws of `laws/texts` a text spells lines if and only if it spells the report that they stand for, and its fault is
-- the one that it has as a report.
use Rattle.std.specs.Prelude.{◌≡◌, ◌+◌, ℕ, List, length}
use Rattle.air_model.specs.Decks.{Deck}
use Rattle.item_catalog.specs.FirstFaults.{IsFirstFault, NoneBefore}
use Rattle.item_catalog.specs.Records.{records_of}
use Rattle.air_report.specs.LineFaults.{line_kinds_at, spelled_lines}
use Rattle.air_report.specs.ReportLines.{ReportLines, sections_of}

-- The records spell the lines: no kind applies to any record, and the lines are those that the records spell, by section.
pub record RecordsSpellLines (deck : Deck) (records : List (List (List ℕ))) (lines : ReportLines) : Type 0 where
  pub faultless : NoneBefore (line_kinds_at deck records) (length records)
  pub sections : lines ≡ sections_of (spelled_lines deck.settings.version records)

-- The text spells the lines, as a report of the deck.
unfoldable pub SpellsLines : Deck → List ℕ → ReportLines → Type 0
SpellsLines deck text lines = RecordsSpellLines deck (records_of text) lines

-- The first faulty record of the text has this row number, and this is the number of the least kind that applies there.
unfoldable pub HasLineFault : Deck → List ℕ → ℕ → ℕ → Type 0
HasLineFault deck text row_number kind_number =
    (place : ℕ) × (row_number ≡ place + 1) × IsFirstFault (length (records_of text)) (line_kinds_at deck (records_of text)) place kind_number
