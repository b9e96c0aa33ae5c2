-- The findings of a whole report, each with its row, and how much an audit may be.
use Rattle.std.specs.Prelude.{◌≡◌, ◌+◌, ◌*◌, ◌<◌, ℕ, not, List, ◌++◌, length, map, count_by, zip, Option, ⊤}
use Rattle.air_history.specs.Histories.{is_start}
use Rattle.air_model.specs.Decks.{Deck}
use Rattle.air_model.specs.Reports.{Report}
use Rattle.air_report.specs.declared.reading.ReadReport.{ReadReport}
use Rattle.live_replay.specs.Findings.{look_cause, verdict_cause}
use Rattle.live_replay.specs.declared.findings.AuditError.{AuditError}
use Rattle.live_replay.specs.declared.findings.AuditError.TheVariants.{TooMuch, NoMemory}
use Rattle.live_replay.specs.declared.findings.Cause.{Cause}
use Rattle.live_replay.specs.declared.findings.Finding.{Finding}
use Rattle.live_replay.specs.declared.limits.TheConstants.{MOST_REPLAYED}

-- The findings of lines, each with the row of its line.
abbrev pub found_in : {L : Type 0} → (L → Option Cause) → List ℕ → List L → List Finding
found_in cause rows lines = map (λ p. record { row = p.0; differs = cause p.1 }) (zip rows lines)

-- The findings of a report's verdicts, glances and looks, by the report's own history.
unfoldable pub findings : Deck → ReadReport → List Finding
findings deck read =
    let H = read.report.history in
    found_in (verdict_cause deck H) read.verdict_rows read.report.verdicts
    ++ found_in (look_cause deck H) read.glance_rows read.report.glances
    ++ found_in (look_cause deck H) read.look_rows read.report.looks

-- How much is replayed: the number of commits times that of verdicts, glances and looks together.
unfoldable pub replayed_in : Report → ℕ
replayed_in report = count_by (λ event. not (is_start event)) report.history * (length report.verdicts + length report.glances + length report.looks)

-- An audit is refused as too much if and only if more is replayed than may be. Out of memory has no cause.
abbrev pub IsAuditRefusal : Report → AuditError → Type 0
IsAuditRefusal report (TooMuch product) = (product ≡ replayed_in report) × (MOST_REPLAYED < product)
IsAuditRefusal report NoMemory = ⊤
