-- The command `audit DECK REPORT`.
use Rattle.std.specs.Prelude.{◌≡◌, ◌⊎◌, ◌≤◌, ℕ, List, [], length, ⊤}
use Rattle.std.specs.Io.KnownBytes.{IsAtEnd}
use Rattle.air_devices.specs.Shelves.{ShelfState}
use Rattle.air_model.specs.Decks.{Deck}
use Rattle.air_report.specs.declared.status.Status.{Status}
use Rattle.air_report.specs.declared.status.Status.TheVariants as status
use Rattle.live_replay.specs.AuditAnswers.{CanBeAudited, IsAudit, IsTooMuch}
use Rattle.live_replay.specs.FindingTexts.{findings_text, some_differ}
use Rattle.air_cli.specs.NamedDecks.{DeckCause, HasDeck}
use Rattle.air_cli.specs.NamedFiles.{HasBytes, UnreadCause}
use Rattle.air_cli.specs.ReportsAndTapes.{ReportAndTape}
use Rattle.live_replay.specs.declared.findings.Finding.{Finding}
use Rattle.air_report.specs.ReportGrammar.{HasReportFault}
use Rattle.air_report.specs.declared.reading.limits.TheConstants.{MOST_REPORT_BYTES}
use Rattle.air_cli.specs.Meanings.{Meaning, no_command}

-- Some well-made deck and some bytes of a report have this property. If the named files are told, these are their deck and their bytes.
abbrev pub HasReport : List ℕ → List ℕ → ShelfState → (Deck → List ℕ → Type 0) → Type 0
HasReport deck report before P = HasDeck deck before (λ d. HasBytes report before (λ bytes. (length bytes ≤ MOST_REPORT_BYTES) × P d bytes))

-- Why it is refused. There is no deck, of programs of any length; or there is one, but the report can't be read. Or the report was read to its end,
-- and has a fault or is too much to replay.
unfoldable pub AuditCause : List ℕ → List ℕ → ShelfState → ShelfState → Status → Type 0
AuditCause deck report before now (status.Report row kind) =
    IsAtEnd (now.told.left report) × HasReport deck report before (λ d bytes. HasReportFault d bytes row kind)
AuditCause deck report before now (status.TooMuch product) =
    IsAtEnd (now.told.left report) × HasReport deck report before (λ d bytes. IsTooMuch d bytes product)
AuditCause deck report before now s = DeckCause deck before now s ⊎ (HasDeck deck before (λ d. ⊤) × UnreadCause report MOST_REPORT_BYTES before now s)

-- What it gives: the text of the report's findings, which are true, and no tape. They are findings of some well-made deck and some bytes of a report,
-- those of the named files if they are told. Something differs if and only if one of the findings does.
unfoldable pub AuditGives : List ℕ → List ℕ → ShelfState → ReportAndTape → Type 0
AuditGives deck report before given =
    (found : List Finding) × (given ≡ record { text = findings_text found; tape = []; differs = some_differ found }) × HasReport deck report before (λ d bytes. IsAudit d bytes found)

-- It reads its deck, which may be any, and the report, which must be one of the deck and not too much to replay. It writes no output.
abbrev pub audit_meaning : List ℕ → List ℕ → Meaning
audit_meaning deck report = record no_command {
  IsInput = λ name. (name ≡ deck) ⊎ (name ≡ report);
  Suits = λ before. HasReport deck report before CanBeAudited;
  Refuses = AuditCause deck report;
  Gives = AuditGives deck report;
}
