-- Findings of whole reports over a small history, computed: a line that agrees, the same altered, and a glance and a look after it.
use Rattle.std.specs.Prelude.{◌≡◌, ℕ, List, [], ◌∷◌, Option, Some, None, refl}
use Rattle.air_base.specs.declared.verdicts.ReadOf.{ReadOf}
use Rattle.air_base.specs.declared.verdicts.VerdictKind.{VerdictKind}
use Rattle.air_base.specs.declared.verdicts.VerdictKind.TheVariants.{Accept, Abort}
use Rattle.air_history.specs.Places.{last_place}
use Rattle.air_history.specs.Histories.{front, writer, writer_before, writes, reads, is_start}
use Rattle.air_history.specs.Descents.{descends, descends_in}
use Rattle.air_history.specs.Tables.{value_on_base, write_of, value_after, table}
use Rattle.air_history.specs.Reads.{origin, stale}
use Rattle.air_history.specs.Consistency.{descends_from, runs_alone, last_alone, consistent}
use Rattle.air_history.specs.Clashes.{least, is_late, clash_by_history}
use Rattle.air_history.specs.ClashLaws.{passes}
use Rattle.air_model.specs.Decks.{Deck, event_of, script_history}
use Rattle.air_model.specs.Reports.{total_at}
use Rattle.air_model.specs.declared.reports.LookLine.{LookLine}
use Rattle.air_model.proofs.SessionExamples.{s, swapped_deck, u}
use Rattle.air_report.specs.declared.reading.ReadReport.{ReadReport}
use Rattle.live_replay.specs.declared.findings.Cause.{Cause}
use Rattle.live_replay.specs.declared.findings.Cause.TheVariants.{Value, Verdict, Total}
use Rattle.live_replay.specs.declared.findings.Finding.{Finding}
use Rattle.live_replay.specs.Audits.{findings, replayed_in}
use Rattle.live_replay.specs.Findings.{all_pass, is_refused, is_clash, spans_so, verdict_cause, look_cause}

-- Item 0 becomes 11 and item 1 becomes 21, both in cycle 1.
abbrev deck : Deck
deck = swapped_deck (s ∷ u ∷ u ∷ s ∷ [])

abbrev r : ℕ → ℕ → ℕ → ReadOf
r item cycle value = record { item = item; cycle = cycle; value = value }

abbrev look_seen : ℕ → ℕ → LookLine
look_seen cycle total = record { monitor = 0; cycle = cycle; total = total }

-- The report of that history with a verdict in row 5, the reader's counts, and what monitors saw in the rows told.
abbrev report : VerdictKind → List ReadOf → List LookLine → List LookLine → List ℕ → List ℕ → ReadReport
report kind reads glances looks glance_rows look_rows = record {
  report = record {
    history = script_history deck;
    verdicts = record { reader = 0; verdict = record { query = 0; attempt = 1; kind = kind }; reads = reads } ∷ [];
    counts = record { reader = 0; counts = record { opened = 2; dozed = 2; late = 0; refused = 0; foreign = 0; copied = 0 } } ∷ [];
    glances = glances;
    looks = looks;
  };
  verdict_rows = 5 ∷ [];
  glance_rows = glance_rows;
  look_rows = look_rows;
}

abbrev row_finding : ℕ → Option Cause → Finding
row_finding row differs = record { row = row; differs = differs }

abbrev whole : ReadReport
whole = report Accept (r 0 1 10 ∷ r 1 2 21 ∷ []) (look_seen 0 30 ∷ look_seen 2 31 ∷ []) (look_seen 2 32 ∷ []) (7 ∷ 8 ∷ []) (9 ∷ [])

pub record Reports : Type 0 where
  agrees : findings deck (report Accept (r 0 1 10 ∷ r 1 2 21 ∷ []) [] [] [] []) ≡ row_finding 5 None ∷ []
  verdict : findings deck (report (Abort 1 2 0) (r 0 1 10 ∷ []) [] [] [] []) ≡ row_finding 5 (Some Verdict) ∷ []
  value : findings deck (report Accept (r 0 1 10 ∷ r 1 2 22 ∷ []) [] [] [] []) ≡ row_finding 5 (Some Value) ∷ []
  rows : findings deck whole ≡ row_finding 5 None ∷ row_finding 7 None ∷ row_finding 8 (Some Total) ∷ row_finding 9 None ∷ []
  replayed : replayed_in whole.report ≡ 8

reports : Reports
unfolding findings replayed_in verdict_cause look_cause total_at all_pass is_refused is_clash spans_so passes is_late clash_by_history least stale origin consistent last_alone runs_alone descends_from descends descends_in writer writer_before writes reads is_start front last_place table value_after write_of value_on_base script_history event_of
reports = record { agrees = refl; verdict = refl; value = refl; rows = refl; replayed = refl }
