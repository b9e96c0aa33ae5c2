-- Audits of small reports: what each relation says of the report of a run of a small deck, and of texts that are none.
use Rattle.std.proofs.Common.{◌≡◌, ◌<◌, ◌≤◌, get_or, ℕ, zero, suc, List, [], ◌∷◌, Option, Some, None, All, refl, sym, ap, subst, ◌∙◌, arith}
use Rattle.std.specs.Prelude.{codes}
use Rattle.std.proofs.lemmas.List.Elements.{All-nil}
use Rattle.csv.proofs.OnLiterals.{csv_on_literals}
use Rattle.air_base.specs.Numbers.{number_of}
use Rattle.air_base.specs.NumberLists.{all_some}
use Rattle.air_base.specs.declared.verdicts.VerdictKind.TheVariants.{Accept}
use Rattle.air_history.specs.Clashes.{clash_by_history, is_late, least}
use Rattle.air_history.specs.ClashLaws.{passes}
use Rattle.air_history.specs.Consistency.{consistent, descends_from, last_alone, runs_alone}
use Rattle.air_history.specs.Descents.{descends, descends_in}
use Rattle.air_history.specs.Histories.{front, is_start, reads, writer, writer_before, writes}
use Rattle.air_history.specs.Places.{last_place}
use Rattle.air_history.specs.Reads.{origin, stale}
use Rattle.air_history.specs.Tables.{table, value_after, value_on_base, write_of}
use Rattle.air_history.specs.declared.histories.Event.{Event}
use Rattle.air_history.specs.declared.histories.Event.TheVariants as e
use Rattle.air_model.specs.Decks.{Deck, IsDeck, IsUpdate}
use Rattle.air_model.specs.Reports.{Report}
use Rattle.air_model.specs.declared.reports.VerdictLine.{VerdictLine}
use Rattle.air_model.proofs.RelationExamples.{pair_is_deck}
use Rattle.air_model.proofs.SessionExamples.{pair}
use Rattle.air_report.specs.LineTexts.{short_of, spelled_item, spelled_place, spelled_read}
use Rattle.air_report.specs.ReadReports.{IsReportOf}
use Rattle.air_report.specs.LineFaults.{line_kinds_at}
use Rattle.air_report.specs.LineGrammar.{HasLineFault, RecordsSpellLines, SpellsLines}
use Rattle.air_report.specs.ReportGrammar.{HasReportFault}
use Rattle.air_report.specs.ReportLines.{lines_in}
use Rattle.air_report.specs.declared.reading.ReadReport.{ReadReport}
use Rattle.air_report.proofs.TiedReports.{spelled_report, told_fault}
use Rattle.live_replay.specs.AuditAnswers.{CanBeAudited, IsAudit, IsTooMuch}
use Rattle.live_replay.specs.Audits.{findings, replayed_in}
use Rattle.live_replay.specs.FindingLaws.{FindsEach, FindsLine, GivesVerdict}
use Rattle.live_replay.specs.Findings.{all_pass, is_clash, is_refused, look_cause, spans_so, verdict_cause}
use Rattle.live_replay.specs.TrueAudits.{IsTrueAudit}
use Rattle.live_replay.specs.declared.findings.Cause.{Cause}
use Rattle.live_replay.specs.declared.findings.Cause.TheVariants.{Verdict}
use Rattle.live_replay.specs.declared.findings.Finding.{Finding}
use Rattle.live_replay.proofs.AuditLemmas.{no_report_fault, one_report}
use Rattle.live_replay.proofs.EachFound.{finds_each}
use Rattle.live_replay.proofs.FindingLemmas.{agrees, look_agrees}
use Rattle.live_replay.proofs.FindingTexts.{none_differ}
use Rattle.live_replay.proofs.TrueReports.{judged_lines, judged_session, none_differ as lines_agree}

-- The fields of a record.
abbrev Row : Type 0
Row = List (List ℕ)

-- Two items, a reader that asks for both, ten cycles, and no updater.
abbrev pub small : Deck
small = record pair { updates = [] }

pub small_is_deck : IsDeck small
small_is_deck = record {
  some = pair_is_deck.some;
  version = pair_is_deck.version;
  group = pair_is_deck.group;
  grouped = pair_is_deck.grouped;
  most = pair_is_deck.most;
  values = pair_is_deck.values;
  sizes = pair_is_deck.sizes;
  aired = pair_is_deck.aired;
  few = pair_is_deck.few;
  from_two = pair_is_deck.from_two;
  within_a_run = pair_is_deck.within_a_run;
  rising = pair_is_deck.rising;
  updates = All-nil (All (IsUpdate 2));
  readers = refl;
  tries = pair_is_deck.tries;
  queries = pair_is_deck.queries;
  script = λ by. omega arith;
}

-- The one history of a run of it.
abbrev pub ten : List Event
ten = e.Start ∷ e.Start ∷ e.Start ∷ e.Start ∷ e.Start ∷ e.Start ∷ e.Start ∷ e.Start ∷ e.Start ∷ e.Start ∷ []

-- The report of the run: its reader got both items in the first cycle, and slept through the others.
abbrev start : Row
start = codes "start" ∷ []

abbrev rows : List Row
rows = start ∷ start ∷ start ∷ start ∷ start ∷ start ∷ start ∷ start ∷ start ∷ start
    ∷ (codes "accept" ∷ codes "0" ∷ codes "0" ∷ codes "1" ∷ codes "0@1=10 1@1=20" ∷ [])
    ∷ (codes "counts" ∷ codes "0" ∷ codes "2" ∷ codes "18" ∷ codes "0" ∷ codes "0" ∷ codes "0" ∷ codes "0" ∷ []) ∷ []

abbrev pub its_bytes : List ℕ
its_bytes = codes "start\nstart\nstart\nstart\nstart\nstart\nstart\nstart\nstart\nstart\naccept,0,0,1,0@1=10 1@1=20\ncounts,0,2,18,0,0,0,0\n"

abbrev its_verdict : VerdictLine
its_verdict = record {
  reader = 0;
  verdict = record { query = 0; attempt = 1; kind = Accept };
  reads = record { item = 0; cycle = 1; value = 10 } ∷ record { item = 1; cycle = 1; value = 20 } ∷ [];
}

abbrev pub report : Report
report = record {
  history = ten;
  verdicts = its_verdict ∷ [];
  counts = record { reader = 0; counts = record { opened = 2; dozed = 18; late = 0; refused = 0; foreign = 0; copied = 0 } } ∷ [];
  glances = [];
  looks = [];
}

-- What is read of the bytes, if the verdict is told to be in this row.
abbrev pub read_in : ℕ → ReadReport
read_in row = record { report = report; verdict_rows = row ∷ []; glance_rows = []; look_rows = [] }

no_kind : (place : ℕ) → place < 12 → line_kinds_at small rows place ≡ []
unfolding line_kinds_at spelled_read spelled_place spelled_item short_of number_of all_some
no_kind zero below = refl
no_kind (suc zero) below = refl
no_kind (suc (suc zero)) below = refl
no_kind (suc (suc (suc zero))) below = refl
no_kind (suc (suc (suc (suc zero)))) below = refl
no_kind (suc (suc (suc (suc (suc zero))))) below = refl
no_kind (suc (suc (suc (suc (suc (suc zero)))))) below = refl
no_kind (suc (suc (suc (suc (suc (suc (suc zero))))))) below = refl
no_kind (suc (suc (suc (suc (suc (suc (suc (suc zero)))))))) below = refl
no_kind (suc (suc (suc (suc (suc (suc (suc (suc (suc zero))))))))) below = refl
no_kind (suc (suc (suc (suc (suc (suc (suc (suc (suc (suc zero)))))))))) below = refl
no_kind (suc (suc (suc (suc (suc (suc (suc (suc (suc (suc (suc zero))))))))))) below = refl
no_kind (suc (suc (suc (suc (suc (suc (suc (suc (suc (suc (suc (suc place)))))))))))) below = absurd (omega arith)

rows_spell : RecordsSpellLines small rows (lines_in report)
unfolding spelled_read spelled_place spelled_item short_of number_of all_some
rows_spell = record { faultless = no_kind; sections = refl }

spells : SpellsLines small its_bytes (lines_in report)
unfolding SpellsLines csv_on_literals
spells = rows_spell

-- It is the report that is printed so.
pub is_report : IsReportOf small its_bytes (read_in 11)
is_report = record { spelled = spelled_report small its_bytes (lines_in report) spells; verdict_rows = refl; glance_rows = refl; look_rows = refl }

-- Not if the verdict is told to be in another row.
not_report : IsReportOf small its_bytes (read_in 10) → ⊥
not_report h = let rows_are : 10 ∷ [] ≡ 11 ∷ [] = h.verdict_rows in let row : 10 ≡ 11 = ap (λ rs. get_or rs 0 0) rows_are in omega (arith, row)

-- ---- what may be audited

pub can_be_audited : CanBeAudited small its_bytes
unfolding replayed_in is_start
can_be_audited = record { read = read_in 11; is = is_report; within = omega arith }

-- A look that the deck's monitors can't have: it has none, and the cycle has not begun.
abbrev pub faulty : List ℕ
faulty = codes "start\nlook,0,2,30\n"

line_fault : HasLineFault small faulty 2 6
unfolding HasLineFault line_kinds_at csv_on_literals spelled_read spelled_place spelled_item short_of number_of all_some
line_fault = (
  1,
  refl,
  record {
    within = omega arith;
    first = before;
    least = record { one = (0, omega arith, refl); least = λ k d below. least_kind k d below };
  },
)
  where
    before : (place : ℕ) → place < 1 → line_kinds_at small ((codes "start" ∷ []) ∷ (codes "look" ∷ codes "0" ∷ codes "2" ∷ codes "30" ∷ []) ∷ []) place ≡ []
    before zero below = refl
    before (suc place) below = absurd (omega arith)

    least_kind : (k d : ℕ) → k < 2 → 6 ≤ get_or (6 ∷ 7 ∷ []) k d
    least_kind zero d below = omega arith
    least_kind (suc zero) d below = omega arith
    least_kind (suc (suc k)) d below = absurd (omega arith)

pub has_fault : HasReportFault small faulty 2 6
has_fault = told_fault small faulty 2 6 line_fault

not_audited : CanBeAudited small faulty → ⊥
not_audited h = no_report_fault small faulty h.read 2 6 h.is has_fault

-- Without a commit nothing is replayed, regardless of the product that is told.
not_too_much : (product : ℕ) → IsTooMuch small its_bytes product → ⊥
unfolding replayed_in is_start
not_too_much product h =
    let same : h.read ≡ read_in 11 = one_report small its_bytes h.read (read_in 11) h.is is_report in
    let none : replayed_in h.read.report ≡ 0 = ap (λ (r : ReadReport). replayed_in r.report) same in
    omega (arith, h.counted, h.above)

-- ---- what is true of an audit

pub true_audit : IsTrueAudit small (read_in 11)
true_audit = record {
  verdicts = agrees small report.history;
  looks = look_agrees small report.history;
  judged = λ r heard k d below. (agrees small report.history _).1 (judged_session small report.history r heard small_is_deck k d below);
  sessions = λ heard same glances looks. lines_agree small (read_in 11)
      (subst (All (GivesVerdict small report.history)) (sym same) (judged_lines small report.history heard small_is_deck)) glances looks;
  none = none_differ (findings small (read_in 11));
}

-- Its one finding: the verdict in row 11 agrees.
abbrev pub one_finding : List Finding
one_finding = record { row = 11; differs = None } ∷ []

pub its_findings : findings small (read_in 11) ≡ one_finding
unfolding findings verdict_cause look_cause all_pass is_refused is_clash spans_so passes is_late clash_by_history least stale origin consistent last_alone runs_alone descends_from descends descends_in writer writer_before writes reads is_start front last_place table value_after write_of value_on_base
its_findings = refl

pub is_audit : IsAudit small its_bytes one_finding
unfolding replayed_in is_start
is_audit = record { read = read_in 11; is = is_report; within = omega arith; are = sym its_findings; true_of = true_audit }

-- A text that is no report of the deck has no audit.
not_audit_of_faulty : (found : List Finding) → IsAudit small faulty found → ⊥
not_audit_of_faulty found h = no_report_fault small faulty h.read 2 6 h.is has_fault

-- An audit of nothing is none of it.
not_audit : IsAudit small its_bytes [] → ⊥
not_audit h =
    let same : findings small h.read ≡ findings small (read_in 11) = ap (findings small) (one_report small its_bytes h.read (read_in 11) h.is is_report) in
    let none : [] ≡ one_finding = h.are ∙ same ∙ its_findings in
    cc

-- ---- what is found of each line

its_each : FindsEach small (read_in 11) one_finding
its_each = subst (FindsEach small (read_in 11)) its_findings (finds_each small its_bytes (read_in 11) is_report)

-- It is found of row 11 that its verdict agrees, and the replay gives this verdict.
its_line : FindsLine 11 (GivesVerdict small ten its_verdict) (record { row = 11; differs = None })
its_line = its_each.verdicts 0 (record { row = 0; differs = None }) 0 its_verdict (omega arith)

its_verdict_given : GivesVerdict small ten its_verdict
its_verdict_given = its_line.1.0 refl

-- So it isn't found that it differs, nor that another row agrees, nor nothing, nor a line more.
not_found_differing : FindsLine 11 (GivesVerdict small ten its_verdict) (record { row = 11; differs = Some Verdict }) → ⊥
not_found_differing h = let none : ◌≡◌ {A = Option Cause} (Some Verdict) None = h.1.1 its_verdict_given in cc

not_each_differing : FindsEach small (read_in 11) (record { row = 11; differs = Some Verdict } ∷ []) → ⊥
not_each_differing h = not_found_differing (h.verdicts 0 (record { row = 0; differs = None }) 0 its_verdict (omega arith))

not_another_row : FindsEach small (read_in 11) (record { row = 10; differs = None } ∷ []) → ⊥
not_another_row h = let row : 10 ≡ 11 = (h.verdicts 0 (record { row = 0; differs = None }) 0 its_verdict (omega arith)).0 in omega (arith, row)

not_each_of_none : FindsEach small (read_in 11) [] → ⊥
not_each_of_none h = let all : 0 ≡ 1 = h.all in omega (arith, all)

not_each_of_two : FindsEach small (read_in 11) (record { row = 11; differs = None } ∷ record { row = 12; differs = None } ∷ []) → ⊥
not_each_of_two h = let all : 2 ≡ 1 = h.all in omega (arith, all)
