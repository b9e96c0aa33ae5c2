-- The small words of findings and their text, computed; and when the end of a verdict is that of a replay.
use Rattle.std.proofs.Common.{◌≡◌, ℕ, List, [], ◌∷◌, Some, None, true, false, length, map, refl, arith}
use Rattle.std.specs.Prelude.{codes}
use Rattle.csv.specs.Writing.{escaped, fields_text, is_blank}
use Rattle.air_base.specs.Numbers.{number_text}
use Rattle.air_base.specs.declared.verdicts.Policy.TheVariants.{FMatrix, Datacycle}
use Rattle.air_base.specs.declared.verdicts.ReadOf.{ReadOf}
use Rattle.air_base.specs.declared.verdicts.VerdictKind.TheVariants.{Accept, Abort, Aged}
use Rattle.air_history.specs.Ages.{span, spans_too_far}
use Rattle.air_history.specs.Columns.{scheme_of}
use Rattle.air_history.specs.Clashes.{clash_by_history, is_late, least}
use Rattle.air_history.specs.Consistency.{consistent, descends_from, last_alone, runs_alone}
use Rattle.air_history.specs.Descents.{descends, descends_in}
use Rattle.air_history.specs.Histories.{front, is_start, reads, writer, writer_before, writes}
use Rattle.air_history.specs.Places.{last_place}
use Rattle.air_history.specs.Reads.{ReadAt, origin, stale}
use Rattle.air_history.specs.Tables.{table, value_after, value_on_base, write_of}
use Rattle.air_model.specs.Decks.{Deck, event_of, script_history}
use Rattle.air_model.specs.Judges.{by_history}
use Rattle.air_model.specs.Reports.{total_at}
use Rattle.air_model.specs.Rows.{rows_text}
use Rattle.air_model.specs.Sessions.{abort, accept_if_whole, copy_of, count_copied, decide, drop_copy, end, end_query, hear, hear_all, hold, is_unusable, line_of, next_attempt, next_query, query_of, session, settle, turn, turn_with, wanted, with_line}
use Rattle.air_model.specs.declared.reports.LookLine.{LookLine}
use Rattle.air_model.proofs.SessionExamples.{pair, s, swapped_deck, u}
use Rattle.air_report.specs.declared.reading.lines.EventLine.TheVariants as line
use Rattle.air_report.specs.declared.reading.lines.ReportLine.TheVariants as l
use Rattle.live_replay.specs.Audits.{found_in, replayed_in}
use Rattle.live_replay.specs.FindingLaws.{EndsSo, SpansSo}
use Rattle.live_replay.specs.FindingTexts.{audited_row, cause_word, differs, finding_row, findings_text, row_of, some_differ}
use Rattle.live_replay.specs.Findings.{has_value, look_cause, place_of_line, places_read, read_in_cycle}
use Rattle.live_replay.specs.ReportFindings.{finding_of, sessions_judged}
use Rattle.live_replay.specs.declared.findings.Cause.TheVariants.{Value, Verdict, Clash, Total}
use Rattle.live_replay.specs.declared.findings.Finding.{Finding}

-- A read of an item in a cycle, with its value; and without it.
abbrev r : ℕ → ℕ → ℕ → ReadOf
r item cycle value = record { item = item; cycle = cycle; value = value }

abbrev at : ℕ → ℕ → ReadAt
at item cycle = record { item = item; cycle = cycle }

-- A line that agrees, and one that differs.
abbrev both : List Finding
both = record { row = 2; differs = None } ∷ record { row = 3; differs = Some Value } ∷ []

abbrev look : ℕ → ℕ → LookLine
look cycle total = record { monitor = 0; cycle = cycle; total = total }

-- Two readers, of one query and of two, who hear nothing.
abbrev two_readers : Deck
two_readers = record pair {
  readers = record { room = 0; age = 0; tries = 1 } ∷ record { room = 0; age = 0; tries = 1 } ∷ [];
  queries = ((0 ∷ []) ∷ []) ∷ ((1 ∷ []) ∷ (0 ∷ []) ∷ []) ∷ [];
}

-- Item 0 becomes 11 and item 1 becomes 21, both in cycle 1; then another cycle, and in the second deck one more after it.
abbrev turned : Deck
turned = swapped_deck (s ∷ u ∷ u ∷ s ∷ [])

abbrev turned_again : Deck
turned_again = swapped_deck (s ∷ u ∷ u ∷ s ∷ s ∷ [])

pub record Texts : Type 0 where
  words : map cause_word (Value ∷ Verdict ∷ Clash ∷ Total ∷ []) ≡ codes "value" ∷ codes "verdict" ∷ codes "clash" ∷ codes "total" ∷ []
  agreeing : row_of 2 None ≡ codes "agrees" ∷ codes "2" ∷ []
  differing : finding_row (record { row = 3; differs = Some Clash }) ≡ codes "differs" ∷ codes "3" ∷ codes "clash" ∷ []
  one_differs : map differs both ≡ false ∷ true ∷ []
  last_row : audited_row both ≡ codes "audited" ∷ codes "2" ∷ codes "1" ∷ []
  text : findings_text both ≡ codes "agrees,2\ndiffers,3,value\naudited,2,1\n"
  some : some_differ both ≡ true
  none : some_differ [] ≡ false
  -- reads and lines
  place : place_of_line (r 6 2 10) ≡ at 6 2
  places : places_read (r 6 2 10 ∷ r 5 1 9 ∷ []) ≡ at 6 2 ∷ at 5 1 ∷ []
  no_value : read_in_cycle 6 2 ≡ at 6 2
  catalog_value : has_value (10 ∷ 20 ∷ []) (script_history turned) (r 0 1 10) ≡ true
  other_value : has_value (10 ∷ 20 ∷ []) (script_history turned) (r 0 2 10) ≡ false
  of_look : finding_of turned (script_history turned) 7 (l.Look (look 2 32)) ≡ Some (record { row = 7; differs = None })
  of_other_total : finding_of turned (script_history turned) 7 (l.Glance (look 2 31)) ≡ Some (record { row = 7; differs = Some Total })
  of_event : finding_of turned (script_history turned) 7 (l.Event line.Start) ≡ None
  in_rows : found_in (look_cause turned (script_history turned)) (7 ∷ 9 ∷ []) (look 2 32 ∷ look 1 31 ∷ []) ≡ record { row = 7; differs = None } ∷ record { row = 9; differs = Some Total } ∷ []
  -- Of two commits and three starts, a glance and two looks.
  replayed : replayed_in (record { history = script_history turned_again; verdicts = []; counts = []; glances = look 0 30 ∷ []; looks = look 1 30 ∷ look 3 32 ∷ [] }) ≡ 6
  -- Each reader's queries end unfinished.
  all_sessions : map (λ t. length t.lines) (sessions_judged two_readers (script_history two_readers) (λ reader. [])) ≡ 1 ∷ 2 ∷ []
  -- Under Datacycle item 1 of cycle 2 clashes with item 0 of cycle 1; under F-Matrix it doesn't.
  aborted : EndsSo (scheme_of Datacycle) 2 (script_history turned) (at 0 1 ∷ []) (Abort 1 2 0)
  other_clash : EndsSo (scheme_of Datacycle) 2 (script_history turned) (at 0 1 ∷ []) (Abort 1 2 1) → ⊥
  no_clash : EndsSo (scheme_of FMatrix) 2 (script_history turned) (at 0 1 ∷ []) (Abort 1 2 0) → ⊥
  accepted : EndsSo (scheme_of FMatrix) 2 (script_history turned) (at 0 1 ∷ []) Accept
  -- With the read of cycle 256 that of cycle 1 lies too far apart in version 2, and in version 1 it doesn't.
  aged : SpansSo 2 (at 0 1 ∷ []) (Aged 1 256)
  not_aged : SpansSo 1 (at 0 1 ∷ []) (Aged 1 256) → ⊥
  accepted_near : SpansSo 2 (at 0 2 ∷ at 1 256 ∷ []) Accept
  accepted_far : SpansSo 2 (at 0 1 ∷ at 1 256 ∷ []) Accept → ⊥

texts : Texts
unfolding span spans_too_far findings_text rows_text number_text escaped fields_text is_blank look_cause total_at replayed_in script_history event_of is_start front table value_after write_of value_on_base is_late clash_by_history least stale origin consistent last_alone runs_alone descends_from descends descends_in writer writer_before writes reads last_place by_history abort accept_if_whole copy_of count_copied decide drop_copy end end_query hear hear_all hold is_unusable line_of next_attempt next_query query_of session settle turn turn_with wanted with_line
texts = record {
  words = refl;
  agreeing = refl;
  differing = refl;
  one_differs = refl;
  last_row = refl;
  text = refl;
  some = refl;
  none = refl;
  place = refl;
  places = refl;
  no_value = refl;
  catalog_value = refl;
  other_value = refl;
  of_look = refl;
  of_other_total = refl;
  of_event = refl;
  in_rows = refl;
  replayed = refl;
  all_sessions = refl;
  aborted = (refl, refl);
  other_clash = λ h. let same : 0 ≡ 1 = h.1 in omega (arith, same);
  no_clash = λ h. h.1;
  accepted = tt;
  aged = (refl, (λ _. refl, λ _. tt));
  not_aged = λ h. let far : false ≡ true = h.1.0 tt in cc far;
  accepted_near = (refl, (λ no. absurd no, λ far. let no : false ≡ true = far in cc no));
  accepted_far = λ h. let far : true ≡ false = h.0 in cc far;
}
