-- What is answered of a report's bytes: its audit, or why there is none.
use Rattle.std.specs.Prelude.{◌≡◌, ◌≤◌, ◌<◌, ℕ, List, ⊤}
use Rattle.air_model.specs.Decks.{Deck}
use Rattle.air_report.specs.declared.status.Status.{Status}
use Rattle.air_report.specs.declared.status.Status.TheVariants as status
use Rattle.air_report.specs.ReportGrammar.{HasReportFault}
use Rattle.air_report.specs.declared.reading.ReadReport.{ReadReport}
use Rattle.air_report.specs.ReadReports.{IsReportOf}
use Rattle.live_replay.specs.Audits.{findings, replayed_in}
use Rattle.live_replay.specs.declared.findings.Finding.{Finding}
use Rattle.live_replay.specs.declared.limits.TheConstants.{MOST_REPLAYED}
use Rattle.live_replay.specs.FindingTexts.{findings_text, some_differ}
use Rattle.live_replay.specs.TrueAudits.{IsTrueAudit}
use Rattle.live_replay.specs.declared.audits.reports.AuditText.{AuditText}

-- The bytes spell a report of the deck that isn't too much to replay.
pub record CanBeAudited (deck : Deck) (bytes : List ℕ) : Type 0 where
  pub read : ReadReport
  pub is : IsReportOf deck bytes read
  pub within : replayed_in read.report ≤ MOST_REPLAYED

-- So much would be replayed of the report that the bytes spell, more than may be.
pub record IsTooMuch (deck : Deck) (bytes : List ℕ) (product : ℕ) : Type 0 where
  pub read : ReadReport
  pub is : IsReportOf deck bytes read
  pub counted : product ≡ replayed_in read.report
  pub above : MOST_REPLAYED < product

-- The bytes spell a report of the deck that isn't too much to replay, these are its findings, and they are true.
pub record IsAudit (deck : Deck) (bytes : List ℕ) (found : List Finding) : Type 0 where
  pub read : ReadReport
  pub is : IsReportOf deck bytes read
  pub within : replayed_in read.report ≤ MOST_REPLAYED
  pub are : found ≡ findings deck read
  pub true_of : IsTrueAudit deck read

-- The answer is the text of the findings, and whether some differs.
abbrev pub HasAudit : Deck → List ℕ → AuditText → Type 0
HasAudit deck bytes audited =
    (found : List Finding) × (audited.text.items ≡ findings_text found) × (audited.differs ≡ some_differ found) × IsAudit deck bytes found

-- Why the bytes aren't audited: they have this fault in place of a report, or too much would be replayed; no memory has no cause.
unfoldable pub UnauditedCause : Deck → List ℕ → Status → Type 0
UnauditedCause deck bytes (status.Report row kind) = HasReportFault deck bytes row kind
UnauditedCause deck bytes (status.TooMuch product) = IsTooMuch deck bytes product
UnauditedCause deck bytes status.NoMemory = ⊤
UnauditedCause deck bytes other = ⊥
