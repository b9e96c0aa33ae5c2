-- What holds of a report that was read. The audit of a report requires it.
use Rattle.std.specs.Prelude.{◌≡◌, ◌≤◌, ◌+◌, List, length}
use Rattle.air_history.specs.Histories.{starts}
use Rattle.air_model.specs.Decks.{Deck, IsLegal}
use Rattle.air_report.specs.ReportRules.{CyclesBegun, IsKnown}
use Rattle.air_report.specs.declared.reading.limits.TheConstants.{MOST_REPORT_BYTES}
use Rattle.air_report.specs.declared.reading.ReadReport.{ReadReport}

-- A list has at most as many members as a text of the greatest length has records: one for each byte, and one at the end.
abbrev pub IsFew : {L : Type 0} → List L → Type 0
IsFew lines = length lines ≤ MOST_REPORT_BYTES + 1

-- A report's history is legal for the deck, its lines name what the deck has and cycles that began, and it has one row number for each line, and few
-- lines of each section.
pub record KeepsGrammar (deck : Deck) (read : ReadReport) : Type 0 where
  pub legal : IsLegal deck read.report.history
  pub known : IsKnown deck read.report
  pub begun : CyclesBegun (starts read.report.history) read.report
  pub verdict_rows : length read.verdict_rows ≡ length read.report.verdicts
  pub glance_rows : length read.glance_rows ≡ length read.report.glances
  pub look_rows : length read.look_rows ≡ length read.report.looks
  pub few_events : IsFew read.report.history
  pub few_verdicts : IsFew read.report.verdicts
  pub few_glances : IsFew read.report.glances
  pub few_looks : IsFew read.report.looks
