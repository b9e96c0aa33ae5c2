-- The words of the laws of findings: what it means that a replay over a history gives a line, and that findings say so of each line.
use Rattle.std.specs.Prelude.{◌≡◌, ◌↔◌, ◌+◌, ◌<◌, ℕ, false, List, length, get_or, All, IsSomeAnd, IsTrue, None, ⊤}
use Rattle.air_base.specs.declared.verdicts.VerdictKind.{VerdictKind}
use Rattle.air_base.specs.declared.verdicts.VerdictKind.TheVariants.{Accept, Abort, Aged, Unfinished}
use Rattle.air_history.specs.declared.histories.Event.{Event}
use Rattle.air_history.specs.Tables.{values_of}
use Rattle.air_history.specs.Reads.{ReadAt, read_value}
use Rattle.air_history.specs.Columns.{Scheme}
use Rattle.air_history.specs.Clashes.{clash_of, is_late}
use Rattle.air_history.specs.ClashLaws.{Accepts}
use Rattle.air_model.specs.Aired.{scheme_in}
use Rattle.air_model.specs.Decks.{Deck, values_in}
use Rattle.air_model.specs.Reports.{total_at}
use Rattle.air_model.specs.SessionLaws.{IsAged, are_far, decided_on}
use Rattle.air_model.specs.declared.reports.LookLine.{LookLine}
use Rattle.air_model.specs.declared.reports.VerdictLine.{VerdictLine}
use Rattle.air_report.specs.declared.reading.ReadReport.{ReadReport}
use Rattle.live_replay.specs.Findings.{place_of_line, places_read, read_in_cycle}
use Rattle.live_replay.specs.declared.findings.Finding.{Finding}

-- The named read of an abort or an aged attempt comes in time, and an abort's clashes with the held read of the named item.
abbrev pub EndsSo : Scheme → ℕ → List Event → List ReadAt → VerdictKind → Type 0
EndsSo scheme n H R Accept = ⊤
EndsSo scheme n H R (Abort item cycle clash) =
    (is_late scheme.policy R (read_in_cycle item cycle) ≡ false) × IsSomeAnd (clash_of scheme n H R (read_in_cycle item cycle)) (λ held. held.item ≡ clash)
EndsSo scheme n H R (Aged item cycle) = is_late scheme.policy R (read_in_cycle item cycle) ≡ false
EndsSo scheme n H R Unfinished = ⊤

-- The reads don't lie too far apart for the version. With the named one they do if and only if the attempt ended aged.
abbrev pub SpansSo : ℕ → List ReadAt → VerdictKind → Type 0
SpansSo version R kind = (are_far version R ≡ false) × (IsAged kind ↔ IsTrue (are_far version (decided_on kind R)))

-- The replay over a history gives the values of a line's reads, and its verdict.
pub record GivesVerdict (deck : Deck) (H : List Event) (line : VerdictLine) : Type 0 where
  pub values : All (λ r. r.value ≡ read_value (values_of (values_in deck)) H (place_of_line r)) line.reads
  pub accepts : Accepts (scheme_in deck) (length deck.items) H (places_read line.reads)
  pub end : EndsSo (scheme_in deck) (length deck.items) H (places_read line.reads) line.verdict.kind
  pub span : SpansSo deck.settings.version (places_read line.reads) line.verdict.kind

-- The replay over a history gives the total of a look or a glance.
abbrev pub GivesLook : Deck → List Event → LookLine → Type 0
GivesLook deck H line = line.total ≡ total_at (values_in deck) H line.cycle

-- What is found of the line in this row: it agrees if and only if this holds.
abbrev pub FindsLine : ℕ → Type 0 → Finding → Type 0
FindsLine row Holds found = (found.row ≡ row) × ((found.differs ≡ None) ↔ Holds)

-- The findings of a report by its own history: one of each verdict, then one of each glance, then one of each look, in order, and no other. Each is of
-- its line's row, and says that the line agrees if and only if the replay gives the line.
pub record FindsEach (deck : Deck) (read : ReadReport) (found : List Finding) : Type 0 where
  pub verdicts : (k : ℕ) (f : Finding) (row : ℕ) (line : VerdictLine) → k < length read.report.verdicts
      → FindsLine (get_or read.verdict_rows k row) (GivesVerdict deck read.report.history (get_or read.report.verdicts k line)) (get_or found k f)
  pub glances : (k : ℕ) (f : Finding) (row : ℕ) (line : LookLine) → k < length read.report.glances
      → FindsLine (get_or read.glance_rows k row) (GivesLook deck read.report.history (get_or read.report.glances k line)) (get_or found (length read.report.verdicts + k) f)
  pub looks : (k : ℕ) (f : Finding) (row : ℕ) (line : LookLine) → k < length read.report.looks
      → FindsLine (get_or read.look_rows k row) (GivesLook deck read.report.history (get_or read.report.looks k line)) (get_or found (length read.report.verdicts + length read.report.glances + k) f)
  pub all : length found ≡ length read.report.verdicts + length read.report.glances + length read.report.looks
