-- Audits at their limits: what is too much to replay, and what is just not; reports regardless of what they tell; and ends of verdicts that come late.
use Rattle.std.proofs.Common.{◌≡◌, ◌<◌, ◌≤◌, ℕ, List, [], ◌∷◌, Some, None, true, false, All, refl, sym, ap, subst, arith}
use Rattle.std.specs.Prelude.{codes}
use Rattle.air_base.specs.Numbers.{number_text}
use Rattle.air_base.specs.declared.verdicts.Policy.TheVariants.{RMatrix}
use Rattle.air_base.specs.declared.verdicts.VerdictKind.TheVariants.{Abort, Aged}
use Rattle.air_history.specs.Columns.{scheme_of}
use Rattle.air_history.specs.Clashes.{clash_by_history, is_late, least}
use Rattle.air_history.specs.Histories.{front, is_start, writer, writer_before, writes}
use Rattle.air_history.specs.Places.{last_place}
use Rattle.air_history.specs.Reads.{ReadAt, stale}
use Rattle.air_history.specs.declared.histories.Event.{Event}
use Rattle.air_model.specs.Decks.{event_of, script_history}
use Rattle.air_model.specs.declared.reports.LookLine.{LookLine}
use Rattle.air_model.proofs.SessionExamples.{s, swapped_deck, u}
use Rattle.air_report.specs.ReadReports.{IsReportOf}
use Rattle.air_report.specs.declared.reading.ReadReport.{ReadReport}
use Rattle.live_replay.specs.AuditAnswers.{CanBeAudited, IsAudit, IsTooMuch}
use Rattle.live_replay.specs.Audits.{findings, replayed_in}
use Rattle.live_replay.specs.FindingLaws.{EndsSo, GivesVerdict}
use Rattle.live_replay.specs.FindingTexts.{audited_row, some_differ}
use Rattle.live_replay.specs.TrueAudits.{IsTrueAudit}
use Rattle.live_replay.specs.declared.findings.Cause.TheVariants.{Value}
use Rattle.live_replay.specs.declared.findings.Finding.{Finding}
use Rattle.live_replay.proofs.AuditExamples.{small, small_is_deck}
use Rattle.live_replay.proofs.AuditLemmas.{one_report}
use Rattle.live_replay.proofs.FindingLemmas.{agrees, look_agrees}
use Rattle.live_replay.proofs.FindingTexts.{none_differ}
use Rattle.live_replay.proofs.TrueReports.{judged_lines, judged_session, none_differ as lines_agree}

-- ---- how much may be replayed

-- Another reading of the bytes of a report has as much to replay.
same_replayed : (bytes : List ℕ) (read other : ReadReport) → IsReportOf small bytes read → IsReportOf small bytes other → replayed_in other.report ≡ replayed_in read.report
same_replayed bytes read other is other_is = ap (λ (r : ReadReport). replayed_in r.report) (one_report small bytes other read other_is is)

-- Fifty million are the most.
most : (bytes : List ℕ) (read : ReadReport) → IsReportOf small bytes read → replayed_in read.report ≡ 50000000 → CanBeAudited small bytes
most bytes read is all = record { read = read; is = is; within = omega (arith, all) }

too_much : (bytes : List ℕ) (read : ReadReport) → IsReportOf small bytes read → replayed_in read.report ≡ 50000001 → IsTooMuch small bytes 50000001
too_much bytes read is more = record { read = read; is = is; counted = sym more; above = omega arith }

not_audited : (bytes : List ℕ) (read : ReadReport) → IsReportOf small bytes read → replayed_in read.report ≡ 50000001 → CanBeAudited small bytes → ⊥
not_audited bytes read is more h = let within : replayed_in h.read.report ≤ 50000000 = h.within in omega (arith, same_replayed bytes read h.read is h.is, more, within)

no_audit : (bytes : List ℕ) (read : ReadReport) (found : List Finding) → IsReportOf small bytes read → replayed_in read.report ≡ 50000001 → IsAudit small bytes found → ⊥
no_audit bytes read found is more h = let within : replayed_in h.read.report ≤ 50000000 = h.within in omega (arith, same_replayed bytes read h.read is h.is, more, within)

not_too_much : (bytes : List ℕ) → IsTooMuch small bytes 50000000 → ⊥
not_too_much bytes h = let above : 50000000 < 50000000 = h.above in omega arith

-- ---- reports regardless of what they tell

-- The audit of each report is true, regardless of its verdicts, glances and looks.
true_of : (read : ReadReport) → IsTrueAudit small read
true_of read = record {
  verdicts = agrees small read.report.history;
  looks = look_agrees small read.report.history;
  judged = λ r heard k d below. (agrees small read.report.history _).1 (judged_session small read.report.history r heard small_is_deck k d below);
  sessions = λ heard same glances looks. lines_agree small read
      (subst (All (GivesVerdict small read.report.history)) (sym same) (judged_lines small read.report.history heard small_is_deck)) glances looks;
  none = none_differ (findings small read);
}

-- So what was audited at the limit is an audit.
audited : (bytes : List ℕ) (read : ReadReport) → IsReportOf small bytes read → replayed_in read.report ≡ 50000000 → IsAudit small bytes (findings small read)
audited bytes read is all = record { read = read; is = is; within = omega (arith, all); are = refl; true_of = true_of read }

-- ---- small words at their ends

abbrev at : ℕ → ℕ → ReadAt
at item cycle = record { item = item; cycle = cycle }

abbrev look : LookLine
look = record { monitor = 0; cycle = 0; total = 30 }

-- Nothing is written; both items are written in cycle 2; item 0 is written before the first cycle.
abbrev unwritten : List Event
unwritten = script_history (swapped_deck (s ∷ []))

abbrev written_late : List Event
written_late = script_history (swapped_deck (s ∷ s ∷ u ∷ u ∷ s ∷ []))

abbrev written_first : List Event
written_first = script_history (swapped_deck (u ∷ s ∷ []))

pub record Ends : Type 0 where
  -- the first of three differs
  one_of_three : audited_row (record { row = 2; differs = Some Value } ∷ record { row = 3; differs = None } ∷ record { row = 4; differs = None } ∷ []) ≡ codes "audited" ∷ codes "3" ∷ codes "1" ∷ []
  -- the one line differs, or agrees
  differs : some_differ (record { row = 2; differs = Some Value } ∷ []) ≡ true
  agrees : some_differ (record { row = 2; differs = None } ∷ []) ≡ false
  -- the first event is a commit
  first_counts : replayed_in (record { history = written_first; verdicts = []; counts = []; glances = []; looks = look ∷ [] }) ≡ 1
  -- under R-Matrix the named read of an aged attempt, or of an abort, comes in time
  in_time : EndsSo (scheme_of RMatrix) 2 unwritten (at 0 1 ∷ []) (Aged 1 256)
  named_late : EndsSo (scheme_of RMatrix) 2 unwritten (at 0 256 ∷ []) (Aged 1 1) → ⊥
  abort_in_time : EndsSo (scheme_of RMatrix) 2 written_late (at 0 2 ∷ []) (Abort 1 3 0)

ends : Ends
unfolding number_text replayed_in script_history event_of is_start is_late clash_by_history least stale front writer writer_before writes last_place
ends = record {
  one_of_three = refl;
  differs = refl;
  agrees = refl;
  first_counts = refl;
  in_time = refl;
  named_late = λ h. cc;
  abort_in_time = (refl, refl);
}
