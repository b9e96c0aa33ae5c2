-- The small reports are in the grammar, and their findings, computed.
use Rattle.std.proofs.Common.{◌≡◌, ◌∷◌, zero, suc, [], All, Some, None, arith, refl, subst, sym}
use Rattle.std.proofs.lemmas.List.Elements.{All-nil}
use Rattle.air_history.specs.Places.{last_place}
use Rattle.air_history.specs.Histories.{front, writer, writer_before, writes, reads, is_start}
use Rattle.air_history.specs.Descents.{descends, descends_in}
use Rattle.air_history.specs.Tables.{value_on_base, write_of, value_after, table}
use Rattle.air_history.specs.Reads.{origin, stale}
use Rattle.air_history.specs.Consistency.{descends_from, runs_alone, last_alone, consistent}
use Rattle.air_history.specs.Clashes.{least, is_late, clash_by_history, group_clash}
use Rattle.air_history.specs.ClashLaws.{passes}
use Rattle.air_model.specs.Decks.{Deck, IsLegal}
use Rattle.air_model.specs.Reports.{total_at}
use Rattle.air_report.specs.LineRules.{InGrammar, IsRight}
use Rattle.air_report.proofs.PrintedGrammar.{begun_of, known_of}
use Rattle.air_report.proofs.SameHistories.{same_legal}
use Rattle.air_report.specs.ReportLines.{lines_in}
use Rattle.air_report.specs.declared.reading.lines.ReportLine.TheVariants.{Look, Verdict}
use Rattle.air_report.specs.KeptReports.{KeepsGrammar}
use Rattle.air_report.specs.declared.reading.ReadReport.{ReadReport}
use Rattle.live_replay.specs.Audits.{findings}
use Rattle.live_replay.specs.Findings.{all_pass, is_refused, is_clash, spans_so, verdict_cause, look_cause}
use Rattle.live_replay.specs.declared.findings.Cause.TheVariants as cause
use Rattle.report_pins.specs.SmallDeck.{small_deck}
use Rattle.report_pins.specs.SmallReports.{r_matrix_deck, found, group_deck, group_report, history, late_report, read_report}

-- ---- in the grammar

legal : IsLegal small_deck history
legal = same_legal small_deck history (refl, (refl, (refl, (refl, (refl, tt))))) refl

r_matrix_legal : IsLegal r_matrix_deck history
r_matrix_legal = same_legal r_matrix_deck history (refl, (refl, (refl, (refl, (refl, tt))))) refl

group_legal : IsLegal group_deck history
group_legal = same_legal group_deck history (refl, (refl, (refl, (refl, (refl, tt))))) refl

verdicts_right : All (λ line. IsRight small_deck 2 (Verdict line)) read_report.report.verdicts
verdicts_right zero d below = record { known = refl; begun = refl }
verdicts_right (suc zero) d below = record { known = refl; begun = refl }
verdicts_right (suc (suc zero)) d below = record { known = refl; begun = refl }
verdicts_right (suc (suc (suc zero))) d below = record { known = refl; begun = refl }
verdicts_right (suc (suc (suc (suc k)))) d below = absurd (omega arith)

looks_right : All (λ line. IsRight small_deck 2 (Look line)) read_report.report.looks
looks_right zero d below = record { known = refl; begun = refl }
looks_right (suc k) d below = absurd (omega arith)

late_verdicts_right : All (λ line. IsRight r_matrix_deck 2 (Verdict line)) late_report.report.verdicts
late_verdicts_right zero d below = record { known = refl; begun = refl }
late_verdicts_right (suc zero) d below = record { known = refl; begun = refl }
late_verdicts_right (suc (suc k)) d below = absurd (omega arith)

group_verdicts_right : All (λ line. IsRight group_deck 2 (Verdict line)) group_report.report.verdicts
group_verdicts_right zero d below = record { known = refl; begun = refl }
group_verdicts_right (suc zero) d below = record { known = refl; begun = refl }
group_verdicts_right (suc (suc k)) d below = absurd (omega arith)

lines : InGrammar small_deck (lines_in read_report.report)
lines = record {
  events = (refl, (refl, (refl, (refl, (refl, tt)))));
  verdicts = verdicts_right;
  counts = All-nil _;
  glances = All-nil _;
  looks = looks_right;
}

late_lines : InGrammar r_matrix_deck (lines_in late_report.report)
late_lines = record {
  events = (refl, (refl, (refl, (refl, (refl, tt)))));
  verdicts = late_verdicts_right;
  counts = All-nil _;
  glances = All-nil _;
  looks = All-nil _;
}

group_lines : InGrammar group_deck (lines_in group_report.report)
group_lines = record {
  events = (refl, (refl, (refl, (refl, (refl, tt)))));
  verdicts = group_verdicts_right;
  counts = All-nil _;
  glances = All-nil _;
  looks = All-nil _;
}

kept : KeepsGrammar small_deck read_report
kept = record {
  legal = legal;
  known = known_of small_deck (lines_in read_report.report) lines;
  begun = begun_of small_deck (lines_in read_report.report) lines;
  verdict_rows = refl;
  glance_rows = refl;
  look_rows = refl;
  few_events = omega arith;
  few_verdicts = omega arith;
  few_glances = omega arith;
  few_looks = omega arith;
}

late_kept : KeepsGrammar r_matrix_deck late_report
late_kept = record {
  legal = r_matrix_legal;
  known = known_of r_matrix_deck (lines_in late_report.report) late_lines;
  begun = begun_of r_matrix_deck (lines_in late_report.report) late_lines;
  verdict_rows = refl;
  glance_rows = refl;
  look_rows = refl;
  few_events = omega arith;
  few_verdicts = omega arith;
  few_glances = omega arith;
  few_looks = omega arith;
}

group_kept : KeepsGrammar group_deck group_report
group_kept = record {
  legal = group_legal;
  known = known_of group_deck (lines_in group_report.report) group_lines;
  begun = begun_of group_deck (lines_in group_report.report) group_lines;
  verdict_rows = refl;
  glance_rows = refl;
  look_rows = refl;
  few_events = omega arith;
  few_verdicts = omega arith;
  few_glances = omega arith;
  few_looks = omega arith;
}

-- The deck and the report are given by equations, as a call has them.
pub kept_given : (d deck : Deck) (r report : ReadReport) → d ≡ deck → r ≡ report → KeepsGrammar deck report → KeepsGrammar d r
kept_given d deck r report is given keeps = subst (λ v. KeepsGrammar v r) (sym is) (subst (λ v. KeepsGrammar deck v) (sym given) keeps)

pub read_kept : (d : Deck) (r : ReadReport) → d ≡ small_deck → r ≡ read_report → KeepsGrammar d r
read_kept d r is given = kept_given d small_deck r read_report is given kept

pub late_read_kept : (d : Deck) (r : ReadReport) → d ≡ r_matrix_deck → r ≡ late_report → KeepsGrammar d r
late_read_kept d r is given = kept_given d r_matrix_deck r late_report is given late_kept

pub group_read_kept : (d : Deck) (r : ReadReport) → d ≡ group_deck → r ≡ group_report → KeepsGrammar d r
group_read_kept d r is given = kept_given d group_deck r group_report is given group_kept

-- ---- the findings

read_found : findings small_deck read_report ≡ found 6 None ∷ found 7 None ∷ found 8 (Some cause.Verdict) ∷ found 9 (Some cause.Value) ∷ found 10 None ∷ []
unfolding findings verdict_cause look_cause total_at all_pass is_refused is_clash spans_so passes is_late clash_by_history least stale origin consistent last_alone runs_alone descends_from descends descends_in writer writer_before writes reads is_start front last_place table value_after write_of value_on_base
read_found = refl

late_found : findings r_matrix_deck late_report ≡ found 6 (Some cause.Verdict) ∷ found 7 None ∷ []
unfolding findings verdict_cause all_pass is_refused is_clash spans_so passes is_late clash_by_history least stale origin writer writer_before writes is_start front last_place table value_after write_of value_on_base
late_found = refl

group_found : findings group_deck group_report ≡ found 6 None ∷ found 7 (Some cause.Verdict) ∷ []
unfolding findings verdict_cause all_pass is_refused is_clash spans_so passes is_late group_clash least origin consistent last_alone runs_alone descends_from descends descends_in writer writer_before writes reads is_start front last_place table value_after write_of value_on_base
group_found = refl

pub read_findings : (d : Deck) (r : ReadReport) → d ≡ small_deck → r ≡ read_report
    → findings d r ≡ found 6 None ∷ found 7 None ∷ found 8 (Some cause.Verdict) ∷ found 9 (Some cause.Value) ∷ found 10 None ∷ []
read_findings d r is given = rw is (rw given read_found)

pub late_findings : (d : Deck) (r : ReadReport) → d ≡ r_matrix_deck → r ≡ late_report → findings d r ≡ found 6 (Some cause.Verdict) ∷ found 7 None ∷ []
late_findings d r is given = rw is (rw given late_found)

pub group_findings : (d : Deck) (r : ReadReport) → d ≡ group_deck → r ≡ group_report → findings d r ≡ found 6 None ∷ found 7 (Some cause.Verdict) ∷ []
group_findings d r is given = rw is (rw given group_found)
