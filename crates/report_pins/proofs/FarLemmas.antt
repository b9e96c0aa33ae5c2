-- The report over 256 starts is in the grammar, and its findings, computed.
use Rattle.std.proofs.Common.{◌≡◌, ◌∷◌, ◌++◌, ℕ, zero, suc, List, [], All, Some, None, arith, length, refl}
use Rattle.std.specs.Prelude.{replicate}
use Rattle.std.proofs.lemmas.List.Elements.{All-nil}
use Rattle.air_history.specs.Ages.{span, spans_too_far}
use Rattle.air_history.specs.Places.{last_place}
use Rattle.air_history.specs.Histories.{front, writer, writer_before, writes, reads, is_start}
use Rattle.air_history.specs.Descents.{descends, descends_in}
use Rattle.air_history.specs.Tables.{value_on_base, write_of, value_after, table}
use Rattle.air_history.specs.Reads.{origin, stale}
use Rattle.air_history.specs.Consistency.{descends_from, runs_alone, last_alone, consistent}
use Rattle.air_history.specs.Clashes.{least, is_late, clash_by_history}
use Rattle.air_history.specs.ClashLaws.{passes}
use Rattle.air_model.specs.Decks.{Deck}
use Rattle.air_report.specs.LineRules.{EachNext, InGrammar, IsRight}
use Rattle.air_report.proofs.LegalLines.{legal}
use Rattle.air_report.proofs.PrintedGrammar.{begun_of, known_of}
use Rattle.air_report.specs.ReportLines.{lines_in}
use Rattle.air_report.specs.declared.reading.lines.EventLine.{EventLine}
use Rattle.air_report.specs.declared.reading.lines.EventLine.TheVariants.{Start}
use Rattle.air_report.specs.declared.reading.lines.ReportLine.TheVariants.{Verdict}
use Rattle.air_report.specs.KeptReports.{KeepsGrammar}
use Rattle.air_report.specs.declared.reading.ReadReport.{ReadReport}
use Rattle.live_replay.specs.Audits.{findings}
use Rattle.live_replay.specs.Findings.{all_pass, is_refused, is_clash, spans_so, verdict_cause}
use Rattle.live_replay.specs.declared.findings.Cause.TheVariants as cause
use Rattle.report_pins.specs.SmallDeck.{young_deck}
use Rattle.report_pins.specs.SmallReports.{far_report, found}
use Rattle.report_pins.proofs.ReplayLemmas.{kept_given}

-- ---- in the grammar

-- n starts, each of which comes next.
all_next : (deck : Deck) (n : ℕ) (done : List EventLine) → EachNext deck done (replicate n Start)
all_next deck zero done = tt
all_next deck (suc n) done = (refl, all_next deck n (done ++ Start ∷ []))

verdicts_right : All (λ line. IsRight young_deck 256 (Verdict line)) far_report.report.verdicts
verdicts_right zero d below = record { known = refl; begun = refl }
verdicts_right (suc zero) d below = record { known = refl; begun = refl }
verdicts_right (suc (suc k)) d below = absurd (omega arith)

lines : InGrammar young_deck (lines_in far_report.report)
lines = record {
  events = all_next young_deck 256 [];
  verdicts = verdicts_right;
  counts = All-nil _;
  glances = All-nil _;
  looks = All-nil _;
}

far_kept : KeepsGrammar young_deck far_report
far_kept = record {
  legal = legal young_deck (replicate 256 Start) (all_next young_deck 256 []);
  known = known_of young_deck (lines_in far_report.report) lines;
  begun = begun_of young_deck (lines_in far_report.report) lines;
  verdict_rows = refl;
  glance_rows = refl;
  look_rows = refl;
  few_events = let size : length far_report.report.history ≡ 256 = refl in omega (arith, size);
  few_verdicts = omega arith;
  few_glances = omega arith;
  few_looks = omega arith;
}

-- The deck and the report are given by equations, as a call has them.
pub far_read_kept : (d : Deck) (r : ReadReport) → d ≡ young_deck → r ≡ far_report → KeepsGrammar d r
far_read_kept d r is given = kept_given d young_deck r far_report is given far_kept

-- ---- the findings

far_found : findings young_deck far_report ≡ found 257 None ∷ found 258 (Some cause.Verdict) ∷ []
unfolding findings span spans_too_far verdict_cause all_pass is_refused is_clash spans_so passes is_late clash_by_history least stale origin consistent last_alone runs_alone descends_from descends descends_in writer writer_before writes reads is_start front last_place table value_after write_of value_on_base
far_found = refl

pub far_findings : (d : Deck) (r : ReadReport) → d ≡ young_deck → r ≡ far_report → findings d r ≡ found 257 None ∷ found 258 (Some cause.Verdict) ∷ []
far_findings d r is given = rw is (rw given far_found)
