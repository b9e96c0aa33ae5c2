-- What single tests of an audit find, and which lines a replay gives: each is shown where it holds and where it doesn't.
use Rattle.std.proofs.Common.{◌≡◌, ℕ, zero, suc, List, [], ◌∷◌, true, false, refl, arith}
use Rattle.std.specs.Prelude.{map}
use Rattle.std.proofs.lemmas.List.Elements.{All-from_recursion}
use Rattle.air_base.specs.declared.verdicts.Policy.TheVariants.{FMatrix, Datacycle, RMatrix}
use Rattle.air_base.specs.declared.verdicts.ReadOf.{ReadOf}
use Rattle.air_base.specs.declared.verdicts.VerdictKind.{VerdictKind}
use Rattle.air_base.specs.declared.verdicts.VerdictKind.TheVariants.{Accept, Abort, Aged, Unfinished}
use Rattle.air_history.specs.Ages.{span, spans_too_far}
use Rattle.air_history.specs.Places.{last_place}
use Rattle.air_history.specs.Histories.{front, is_start, reads, writer, writer_before, writes}
use Rattle.air_history.specs.Descents.{descends, descends_in}
use Rattle.air_history.specs.Tables.{table, value_after, value_on_base, values_of, write_of}
use Rattle.air_history.specs.Reads.{ReadAt, origin, read_value, stale}
use Rattle.air_history.specs.Consistency.{consistent, descends_from, last_alone, runs_alone}
use Rattle.air_history.specs.Clashes.{clash_by_history, is_late, least}
use Rattle.air_history.specs.ClashLaws.{Accepts, passes}
use Rattle.air_history.specs.Columns.{scheme_of}
use Rattle.air_history.specs.declared.histories.Event.{Event}
use Rattle.air_model.specs.Aired.{scheme_in}
use Rattle.air_model.specs.Decks.{Deck, event_of, script_history, values_in}
use Rattle.air_model.specs.Reports.{total_at}
use Rattle.air_model.specs.declared.reports.VerdictLine.{VerdictLine}
use Rattle.air_model.proofs.SessionExamples.{aired_in, judged_by, s, swapped_deck, u}
use Rattle.live_replay.specs.FindingLaws.{GivesLook, GivesVerdict}
use Rattle.live_replay.specs.Findings.{all_pass, is_clash, is_refused, place_of_line, spans_so}

-- Item 0 becomes 11 and item 1 becomes 21, both in cycle 1.
abbrev both : Deck
both = swapped_deck (s ∷ u ∷ u ∷ s ∷ [])

abbrev its_history : List Event
its_history = script_history both

abbrev at : ℕ → ℕ → ReadAt
at item cycle = record { item = item; cycle = cycle }

-- ---- the tests

pub record Tests : Type 0 where
  -- item 1 of cycle 2 passes after item 0 of cycle 1 under F-Matrix, and under Datacycle it doesn't
  they_pass : all_pass (scheme_of FMatrix) 2 its_history (at 0 1 ∷ at 1 2 ∷ []) ≡ true
  last_fails : all_pass (scheme_of Datacycle) 2 its_history (at 0 1 ∷ at 1 2 ∷ []) ≡ false
  none_read : all_pass (scheme_of Datacycle) 2 its_history [] ≡ true
  -- so under Datacycle the named read of an abort is refused, and under F-Matrix it isn't; the clash is item 0's
  abort : is_refused (scheme_of Datacycle) 2 its_history (at 0 1 ∷ []) (Abort 1 2 0) ≡ true
  no_abort : is_refused (scheme_of FMatrix) 2 its_history (at 0 1 ∷ []) (Abort 1 2 0) ≡ false
  named : is_clash (scheme_of Datacycle) 2 its_history (at 0 1 ∷ []) (Abort 1 2 0) ≡ true
  misnamed : is_clash (scheme_of Datacycle) 2 its_history (at 0 1 ∷ []) (Abort 1 2 1) ≡ false
  none_to_name : is_clash (scheme_of FMatrix) 2 its_history (at 0 1 ∷ []) (Abort 1 2 0) ≡ false
  -- under R-Matrix a named read of an older cycle is late
  in_time : is_refused (scheme_of RMatrix) 2 its_history (at 0 2 ∷ []) (Aged 1 2) ≡ true
  late : is_refused (scheme_of RMatrix) 2 its_history (at 0 2 ∷ []) (Aged 1 1) ≡ false
  -- no other verdict names a read
  others_refused : map (is_refused (scheme_of RMatrix) 2 its_history (at 0 2 ∷ [])) (Accept ∷ Unfinished ∷ []) ≡ true ∷ true ∷ []
  others_clash : map (is_clash (scheme_of RMatrix) 2 its_history (at 0 2 ∷ [])) (Accept ∷ Aged 1 1 ∷ Unfinished ∷ []) ≡ true ∷ true ∷ true ∷ []
  -- an attempt ended aged over 255 cycles and not over 254, and never in version 1; any other over 254 and not over 255
  far : map (spans_so 2 (at 0 1 ∷ [])) (Aged 1 256 ∷ Aged 1 255 ∷ Abort 1 256 0 ∷ Abort 1 255 0 ∷ []) ≡ true ∷ false ∷ false ∷ true ∷ []
  in_full : map (spans_so 1 (at 0 1 ∷ [])) (Aged 1 256 ∷ Abort 1 256 0 ∷ []) ≡ false ∷ true ∷ []
  two_held : map (spans_so 2 (at 0 1 ∷ at 1 256 ∷ [])) (Accept ∷ Unfinished ∷ Aged 1 300 ∷ []) ≡ false ∷ false ∷ false ∷ []
  near_held : map (spans_so 2 (at 0 1 ∷ at 1 255 ∷ [])) (Accept ∷ Unfinished ∷ []) ≡ true ∷ true ∷ []

tests : Tests
unfolding all_pass is_refused is_clash spans_so span spans_too_far passes is_late clash_by_history least stale origin consistent last_alone runs_alone descends_from descends descends_in writer writer_before writes reads is_start front last_place script_history event_of
tests = record {
  they_pass = refl;
  last_fails = refl;
  none_read = refl;
  abort = refl;
  no_abort = refl;
  named = refl;
  misnamed = refl;
  none_to_name = refl;
  in_time = refl;
  late = refl;
  others_refused = refl;
  others_clash = refl;
  far = refl;
  in_full = refl;
  two_held = refl;
  near_held = refl;
}

-- ---- the lines of a replay

abbrev read : ℕ → ℕ → ℕ → ReadOf
read item cycle value = record { item = item; cycle = cycle; value = value }

-- The line of the first attempt of the first query.
abbrev line : VerdictKind → List ReadOf → VerdictLine
line kind reads = record { reader = 0; verdict = record { query = 0; attempt = 1; kind = kind }; reads = reads }

-- Both reads of the accepted query, with the values of their cycles.
abbrev accepted : List ReadOf
accepted = read 0 1 10 ∷ read 1 2 21 ∷ []

pass : Accepts (scheme_in both) 2 its_history (at 0 1 ∷ at 1 2 ∷ [])
unfolding passes is_late clash_by_history least stale origin consistent last_alone runs_alone descends_from descends descends_in writer writer_before writes reads is_start front last_place script_history event_of
pass zero d below = refl
pass (suc zero) d below = refl
pass (suc (suc k)) d below = absurd (omega arith)

gives : GivesVerdict both its_history (line Accept accepted)
unfolding table value_after write_of value_on_base front script_history event_of
gives = record {
  values = All-from_recursion (λ r. r.value ≡ read_value (values_of (values_in both)) its_history (place_of_line r)) accepted (refl, (refl, tt));
  accepts = pass;
  end = tt;
  span = (refl, (λ h. absurd h, λ h. let e : false ≡ true = h in cc));
}

-- Each breaks one rule of the four.
pub record NotGiven : Type 0 where
  -- item 1 has the value 21 in cycle 2
  other_value : GivesVerdict both its_history (line Accept (read 0 1 10 ∷ read 1 2 22 ∷ [])) → ⊥
  -- under Datacycle the second read clashes with the first
  not_accepted : GivesVerdict (judged_by Datacycle both) its_history (line Accept accepted) → ⊥
  -- it clashes with item 0, and not with item 1
  other_clash : GivesVerdict (judged_by Datacycle both) its_history (line (Abort 1 2 1) (read 0 1 10 ∷ [])) → ⊥
  -- a named read of 254 cycles later isn't too far
  too_near : GivesVerdict (aired_in 2 both) its_history (line (Aged 1 255) (read 0 1 10 ∷ [])) → ⊥

not_given : NotGiven
unfolding span spans_too_far passes is_late clash_by_history least stale origin consistent last_alone runs_alone descends_from descends descends_in writer writer_before writes reads is_start front last_place table value_after write_of value_on_base script_history event_of
not_given = record {
  other_value = λ h. let e : 22 ≡ 21 = h.values 1 (read 0 0 0) (omega arith) in omega (arith, e);
  not_accepted = λ h. let e : false ≡ true = h.accepts 1 (at 0 0) (omega arith) in cc;
  other_clash = λ h. let e : 0 ≡ 1 = h.end.1 in omega (arith, e);
  too_near = λ h. let e : false ≡ true = h.span.1.0 tt in cc;
}

-- The total of the two items is 30 in cycle 1, and 32 in cycle 2.
total_given : GivesLook both its_history (record { monitor = 0; cycle = 2; total = 32 })
unfolding total_at table value_after write_of value_on_base front script_history event_of
total_given = refl

other_total : GivesLook both its_history (record { monitor = 0; cycle = 1; total = 32 }) → ⊥
unfolding total_at table value_after write_of value_on_base front script_history event_of
other_total h = let e : 32 ≡ 30 = h in omega (arith, e)
