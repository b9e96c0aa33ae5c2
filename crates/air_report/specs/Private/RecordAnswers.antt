-- For private steps alone. The answer on a record, and what the record adds to the lines before it.
use Rattle.std.specs.Prelude.{◌≡◌, ◌<◌, ◌++◌, ⊤, [], ◌∷◌, Option, Result, Ok, Err}
use Rattle.air_model.specs.Decks.{Deck}
use Rattle.air_base.specs.declared.limits.TheConstants.{MOST_UPDATERS}
use Rattle.item_catalog.specs.RecordKinds.{least_kind, with_spelled}
use Rattle.item_catalog.specs.ReadAnswers.{Answers}
use Rattle.item_catalog.specs.declared.records.refusals.Refusal.{Refusal}
use Rattle.item_catalog.specs.declared.records.refusals.Refusal.TheVariants.{NoMemory}
use Rattle.air_report.specs.LineFaults.{line_tests}
use Rattle.air_report.specs.ReportLines.{ReportLines, commits_by}
use Rattle.air_report.specs.declared.reading.kinds.ReportFaultKind.{ReportFaultKind}
use Rattle.air_report.specs.declared.reading.lines.EventLine.{EventLine}
use Rattle.air_report.specs.declared.reading.lines.EventLine.TheVariants.{Commit, Start}
use Rattle.air_report.specs.declared.reading.lines.ReportLine.{ReportLine}
use Rattle.air_report.specs.declared.reading.lines.ReportLine.TheVariants.{Event, Verdict, Counts, Glance, Look}

-- The lines with one more, in its section.
abbrev pub with_one_line : ReportLines → ReportLine → ReportLines
with_one_line r (Event line) = record r { events = r.events ++ line ∷ [] }
with_one_line r (Verdict line) = record r { verdicts = r.verdicts ++ line ∷ [] }
with_one_line r (Counts line) = record r { counts = r.counts ++ line ∷ [] }
with_one_line r (Glance line) = record r { glances = r.glances ++ line ∷ [] }
with_one_line r (Look line) = record r { looks = r.looks ++ line ∷ [] }

-- The least kind that applies to what a record spells.
abbrev pub line_record_kind : Deck → ReportLines → Result ReportLine ReportFaultKind → Option ReportFaultKind
line_record_kind deck before spelled = least_kind (line_tests deck before) spelled

-- A call adds what a record spells if no kind applies; else it answers the least kind, and says nothing of the lines.
abbrev pub AddsLine : {A : Type 0} → Result A (Refusal ReportFaultKind) → Deck → Result ReportLine ReportFaultKind → ReportLines → ReportLines → Type 0
AddsLine result deck spelled old new = Answers result (line_record_kind deck old spelled) (λ _. new ≡ with_spelled with_one_line old spelled)

-- The call ran out of memory, or this holds.
abbrev pub Pushed : {A : Type 0} → Result A (Refusal ReportFaultKind) → Type 0 → Type 0
Pushed (Ok _) Holds = Holds
Pushed (Err refusal) Holds = refusal ≡ NoMemory

-- A line of the history is a start, or the next commit of an updater with a possible number.
abbrev pub CanCommit : ReportLines → EventLine → Type 0
CanCommit before (Commit by seq) = (by < MOST_UPDATERS) × (seq ≡ commits_by by before.events)
CanCommit before Start = ⊤

-- A line may be added: if it is a commit, it is its updater's next.
abbrev pub CanPush : ReportLines → ReportLine → Type 0
CanPush before (Event line) = CanCommit before line
CanPush before line = ⊤
