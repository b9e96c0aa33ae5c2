-- What reading a report's text gives: the report, and the row number of each of its verdict, glance and look lines.
use Rattle.std.specs.Prelude.{◌≡◌, ◌+◌, ℕ, List, length}
use Rattle.std.specs.List.{range_with_len}
use Rattle.air_model.specs.Decks.{Deck}
use Rattle.air_report.specs.ReportGrammar.{SpellsReport}
use Rattle.air_report.specs.declared.reading.ReadReport.{ReadReport}

-- The text spells the report against the deck, and the row numbers are those of its verdicts, its glances and its looks, counted from 1.
pub record IsReportOf (deck : Deck) (text : List ℕ) (read : ReadReport) : Type 0 where
  pub spelled : SpellsReport deck text read.report
  pub verdict_rows : read.verdict_rows ≡ range_with_len (1 + length read.report.history) (length read.report.verdicts)
  pub glance_rows : read.glance_rows ≡ range_with_len (1 + length read.report.history + length read.report.verdicts + length read.report.counts) (length read.report.glances)
  pub look_rows : read.look_rows ≡ range_with_len (1 + length read.report.history + length read.report.verdicts + length read.report.counts + length read.report.glances) (length read.report.looks)
