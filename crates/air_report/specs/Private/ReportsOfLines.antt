-- For private steps alone. The report that is made of the lines of a text.
use Rattle.std.specs.Prelude.{◌≡◌, ◌<◌, ◌+◌, length, ⊤}
use Rattle.std.specs.List.{range_with_len}
use Rattle.air_model.specs.Decks.{Deck, updates_by}
use Rattle.air_report.specs.ReportLines.{ReportLines, report_in}
use Rattle.air_report.specs.declared.reading.lines.EventLine.{EventLine}
use Rattle.air_report.specs.declared.reading.lines.EventLine.TheVariants.{Commit, Start}
use Rattle.air_report.specs.declared.reading.ReadReport.{ReadReport}

-- A line's update is one of the deck's.
abbrev pub NamesUpdate : Deck → EventLine → Type 0
NamesUpdate deck (Commit by seq) = seq < length (updates_by deck by)
NamesUpdate deck Start = ⊤

-- The report is the one that the lines stand for, and its row numbers are those of the lines, section by section, from 1 on.
pub record IsMadeOf (deck : Deck) (lines : ReportLines) (read : ReadReport) : Type 0 where
  pub report : read.report ≡ report_in deck lines
  pub verdict_rows : read.verdict_rows ≡ range_with_len (1 + length lines.events) (length lines.verdicts)
  pub glance_rows : read.glance_rows ≡ range_with_len (1 + length lines.events + length lines.verdicts + length lines.counts) (length lines.glances)
  pub look_rows : read.look_rows ≡ range_with_len (1 + length lines.events + length lines.verdicts + length lines.counts + length lines.glances) (length lines.looks)
