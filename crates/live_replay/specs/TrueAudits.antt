-- What is true of an audit: when it says that a line agrees, that it finds true sessions so, and when nothing differs.
use Rattle.std.specs.Prelude.{◌≡◌, ◌↔◌, ℕ, false, List, length, All, Option, None}
use Rattle.air_model.specs.Aired.{scheme_in}
use Rattle.air_model.specs.Buckets.{Bucket}
use Rattle.air_model.specs.Decks.{Deck, values_in}
use Rattle.air_model.specs.Judges.{by_history}
use Rattle.air_model.specs.ReceiverLaws.{session_of}
use Rattle.air_model.specs.Reports.{line_by, verdict_lines}
use Rattle.air_model.specs.declared.reports.LookLine.{LookLine}
use Rattle.air_model.specs.declared.reports.VerdictLine.{VerdictLine}
use Rattle.air_report.specs.declared.reading.ReadReport.{ReadReport}
use Rattle.live_replay.specs.Audits.{findings}
use Rattle.live_replay.specs.FindingLaws.{GivesLook, GivesVerdict}
use Rattle.live_replay.specs.Findings.{look_cause, verdict_cause}
use Rattle.live_replay.specs.ReportFindings.{sessions_judged}
use Rattle.live_replay.specs.FindingTexts.{some_differ}

-- The line of a verdict agrees if and only if the replay over the report's history gives its reads' values and its verdict. The line of
-- a glance or a look agrees if and only if the replay gives its total. Each verdict of a session that the history judges agrees,
-- regardless of what its reader heard and of what else the report tells. If all verdicts are those of such sessions, and all totals are
-- the history's, every line agrees. Nothing differs if and only if every line agrees.
pub record IsTrueAudit (deck : Deck) (read : ReadReport) : Type 0 where
  pub verdicts : (line : VerdictLine) → (verdict_cause deck read.report.history line ≡ None) ↔ GivesVerdict deck read.report.history line
  pub looks : (line : LookLine) → (look_cause deck read.report.history line ≡ None) ↔ GivesLook deck read.report.history line
  pub judged : (r : ℕ) (heard : List (Option Bucket)) → All (λ line. verdict_cause deck read.report.history (line_by r line) ≡ None)
      (session_of (by_history (scheme_in deck) (length deck.items) (values_in deck) read.report.history) deck r heard).lines
  pub sessions : (heard : ℕ → List (Option Bucket)) → read.report.verdicts ≡ verdict_lines (sessions_judged deck read.report.history heard)
      → All (GivesLook deck read.report.history) read.report.glances → All (GivesLook deck read.report.history) read.report.looks
      → All (λ found. found.differs ≡ None) (findings deck read)
  pub none : (some_differ (findings deck read) ≡ false) ↔ All (λ found. found.differs ≡ None) (findings deck read)
