-- Findings of single lines over small histories, computed.
use Rattle.std.specs.Prelude.{◌≡◌, ℕ, List, [], ◌∷◌, Option, Some, None, refl}
use Rattle.air_base.specs.declared.verdicts.Policy.TheVariants.{Datacycle, RMatrix}
use Rattle.air_base.specs.declared.verdicts.ReadOf.{ReadOf}
use Rattle.air_base.specs.declared.verdicts.VerdictKind.{VerdictKind}
use Rattle.air_base.specs.declared.verdicts.VerdictKind.TheVariants.{Accept, Abort, Aged, Unfinished}
use Rattle.air_history.specs.Ages.{span, spans_too_far}
use Rattle.air_history.specs.Places.{last_place}
use Rattle.air_history.specs.Histories.{front, writer, writer_before, writes, reads, is_start}
use Rattle.air_history.specs.Descents.{descends, descends_in}
use Rattle.air_history.specs.Tables.{value_on_base, write_of, value_after, table}
use Rattle.air_history.specs.Reads.{origin, stale}
use Rattle.air_history.specs.Consistency.{descends_from, runs_alone, last_alone, consistent}
use Rattle.air_history.specs.Clashes.{least, is_late, clash_by_history, group_clash}
use Rattle.air_history.specs.ClashLaws.{passes}
use Rattle.air_model.specs.Decks.{Deck, event_of, script_history}
use Rattle.air_model.specs.Reports.{total_at}
use Rattle.air_model.proofs.SessionExamples.{aired_in, chained_deck, judged_by, s, swapped_deck, u}
use Rattle.live_replay.specs.declared.findings.Cause.{Cause}
use Rattle.live_replay.specs.declared.findings.Cause.TheVariants.{Value, Verdict, Clash, Total}
use Rattle.live_replay.specs.Findings.{all_pass, is_refused, is_clash, spans_so, verdict_cause, look_cause}

-- A read of an item in a cycle, with its value.
abbrev r : ℕ → ℕ → ℕ → ReadOf
r item cycle value = record { item = item; cycle = cycle; value = value }

-- The finding of a verdict on the first query, over the deck's script.
abbrev verdict_finding : Deck → VerdictKind → List ReadOf → Option Cause
verdict_finding deck kind reads = verdict_cause deck (script_history deck) (record { reader = 0; verdict = record { query = 0; attempt = 1; kind = kind }; reads = reads })

-- The finding of a look at a cycle, over the deck's script.
abbrev look_finding : Deck → ℕ → ℕ → Option Cause
look_finding deck cycle total = look_cause deck (script_history deck) (record { monitor = 0; cycle = cycle; total = total })

-- Item 0 becomes 11 and item 1 becomes 21, both in cycle 1.
abbrev both : Deck
both = swapped_deck (s ∷ u ∷ u ∷ s ∷ [])

pub record Verdicts : Type 0 where
  agrees : verdict_finding both Accept (r 0 1 10 ∷ r 1 2 21 ∷ []) ≡ None
  aborted : verdict_finding both (Abort 1 2 0) (r 0 1 10 ∷ []) ≡ Some Verdict
  value : verdict_finding both Accept (r 0 1 10 ∷ r 1 2 22 ∷ []) ≡ Some Value
  -- The value goes before the verdict.
  value_first : verdict_finding both (Abort 1 2 0) (r 0 1 11 ∷ []) ≡ Some Value
  unfinished : verdict_finding both Unfinished (r 0 2 11 ∷ []) ≡ None
  nothing_read : verdict_finding both Unfinished [] ≡ None
  -- Under the other policies the same reads don't go together.
  stale : verdict_finding (judged_by Datacycle both) Accept (r 0 1 10 ∷ r 1 2 21 ∷ []) ≡ Some Verdict
  refused : verdict_finding (judged_by Datacycle both) (Abort 1 2 0) (r 0 1 10 ∷ []) ≡ None
  other_clash : verdict_finding (judged_by Datacycle both) (Abort 1 2 1) (r 0 1 10 ∷ []) ≡ Some Clash
  taken : verdict_finding (judged_by RMatrix both) Accept (r 0 1 10 ∷ r 1 1 20 ∷ []) ≡ None
  -- A read that comes too late passes under R-Matrix in no place.
  late : verdict_finding (judged_by RMatrix both) Accept (r 0 2 11 ∷ r 1 1 20 ∷ []) ≡ Some Verdict
  late_named : verdict_finding (judged_by RMatrix both) (Abort 1 1 0) (r 0 2 11 ∷ []) ≡ Some Verdict

verdicts : Verdicts
unfolding verdict_cause all_pass is_refused is_clash spans_so passes is_late clash_by_history least stale origin consistent last_alone runs_alone descends_from descends descends_in writer writer_before writes reads is_start front last_place table value_after write_of value_on_base script_history event_of
verdicts = record {
  agrees = refl;
  aborted = refl;
  value = refl;
  value_first = refl;
  unfinished = refl;
  nothing_read = refl;
  stale = refl;
  refused = refl;
  other_clash = refl;
  taken = refl;
  late = refl;
  late_named = refl;
}

-- One start, and no commit; with buckets of version 2, and of version 1.
abbrev young : Deck
young = aired_in 2 (swapped_deck (s ∷ []))

abbrev full : Deck
full = swapped_deck (s ∷ [])

pub record Ages : Type 0 where
  -- Reads of 255 cycles lie too far apart to be judged by ages, and those of 254 don't.
  aged : verdict_finding young (Aged 1 256) (r 0 1 10 ∷ []) ≡ None
  older_later : verdict_finding young (Aged 1 45) (r 0 300 10 ∷ []) ≡ None
  too_near : verdict_finding young (Aged 1 256) (r 0 2 10 ∷ []) ≡ Some Verdict
  nothing_held : verdict_finding young (Aged 0 256) [] ≡ Some Verdict
  accepted_far : verdict_finding young Accept (r 0 1 10 ∷ r 1 256 20 ∷ []) ≡ Some Verdict
  accepted_near : verdict_finding young Accept (r 0 2 10 ∷ r 1 256 20 ∷ []) ≡ None
  aborted_far : verdict_finding young (Abort 1 256 0) (r 0 1 10 ∷ []) ≡ Some Verdict
  unfinished_far : verdict_finding young Unfinished (r 0 1 10 ∷ r 1 256 20 ∷ []) ≡ Some Verdict
  -- The reads without the named one are near.
  aged_before : verdict_finding young (Aged 2 257) (r 0 1 10 ∷ r 1 256 20 ∷ []) ≡ Some Verdict
  -- The value goes before the verdict; under R-Matrix the named read comes in time.
  other_value : verdict_finding young (Aged 1 256) (r 0 1 11 ∷ []) ≡ Some Value
  late_named : verdict_finding (judged_by RMatrix young) (Aged 1 1) (r 0 256 10 ∷ []) ≡ Some Verdict
  newer_named : verdict_finding (judged_by RMatrix young) (Aged 1 256) (r 0 1 10 ∷ []) ≡ None
  -- In version 1 no reads lie too far apart.
  far_in_full : verdict_finding full Accept (r 0 1 10 ∷ r 1 256 20 ∷ []) ≡ None
  aged_in_full : verdict_finding full (Aged 1 256) (r 0 1 10 ∷ []) ≡ Some Verdict

ages : Ages
unfolding span spans_too_far verdict_cause all_pass is_refused is_clash spans_so passes is_late clash_by_history least stale origin consistent last_alone runs_alone descends_from descends descends_in writer writer_before writes reads is_start front last_place table value_after write_of value_on_base script_history event_of
ages = record {
  aged = refl;
  older_later = refl;
  too_near = refl;
  nothing_held = refl;
  accepted_far = refl;
  accepted_near = refl;
  aborted_far = refl;
  unfinished_far = refl;
  aged_before = refl;
  other_value = refl;
  late_named = refl;
  newer_named = refl;
  far_in_full = refl;
  aged_in_full = refl;
}

-- Item 0 becomes 11, item 2 that and 1, item 1 that and 1, all in cycle 1.
abbrev chain : Deck
chain = chained_deck 1 (s ∷ u ∷ u ∷ u ∷ s ∷ [])

pub record Chain : Type 0 where
  apart : verdict_finding chain Accept (r 0 1 10 ∷ r 1 2 13 ∷ []) ≡ Some Verdict
  abort : verdict_finding chain (Abort 1 2 0) (r 0 1 10 ∷ []) ≡ None
  passes : verdict_finding chain (Abort 1 1 0) (r 0 1 10 ∷ []) ≡ Some Verdict
  together : verdict_finding chain Accept (r 0 2 11 ∷ r 1 2 13 ∷ []) ≡ None
  at_start : look_finding chain 1 60 ≡ None
  later : look_finding chain 2 36 ≡ None
  other_cycle : look_finding chain 1 36 ≡ Some Total
  catalog : look_finding chain 0 60 ≡ None

chain_is : Chain
unfolding verdict_cause look_cause total_at all_pass is_refused is_clash spans_so passes is_late clash_by_history least stale origin consistent last_alone runs_alone descends_from descends descends_in writer writer_before writes reads is_start front last_place table value_after write_of value_on_base script_history event_of
chain_is = record { apart = refl; abort = refl; passes = refl; together = refl; at_start = refl; later = refl; other_cycle = refl; catalog = refl }

-- The deck airs by groups of this many items.
abbrev by_groups : ℕ → Deck → Deck
by_groups group d = record d { settings = record d.settings { group = group } }

-- By groups item 1 clashes with item 0, which was written in its group, and a newer read has its own group asked.
pub record Groups : Type 0 where
  grouped : verdict_finding (by_groups 2 both) (Abort 1 2 0) (r 0 1 10 ∷ []) ≡ None
  accepted : verdict_finding (by_groups 2 both) Accept (r 0 1 10 ∷ r 1 2 21 ∷ []) ≡ Some Verdict
  newer : verdict_finding (by_groups 2 both) (Abort 1 1 0) (r 0 2 11 ∷ []) ≡ None
  alone : verdict_finding (by_groups 1 both) Accept (r 0 1 10 ∷ r 1 2 21 ∷ []) ≡ None
  alone_newer : verdict_finding (by_groups 1 both) (Abort 1 1 0) (r 0 2 11 ∷ []) ≡ Some Verdict
  -- A group of the policies without columns is none.
  vectors : verdict_finding (by_groups 2 (judged_by RMatrix both)) Accept (r 0 1 10 ∷ r 1 1 20 ∷ []) ≡ None

groups : Groups
unfolding verdict_cause all_pass is_refused is_clash spans_so passes is_late clash_by_history group_clash least stale origin consistent last_alone runs_alone descends_from descends descends_in writer writer_before writes reads is_start front last_place table value_after write_of value_on_base script_history event_of
groups = record { grouped = refl; accepted = refl; newer = refl; alone = refl; alone_newer = refl; vectors = refl }
