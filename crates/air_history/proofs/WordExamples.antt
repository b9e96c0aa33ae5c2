-- The small definitions of histories, reads and updates, computed at their ends.
use Rattle.std.specs.Prelude.{◌≡◌, ◌^◌, ◌-◌, ℕ, List, [], ◌∷◌, ◌==◌, Option, Some, None, true, false, refl}
use Rattle.air_base.specs.declared.verdicts.Clash.{Clash}
use Rattle.air_base.specs.declared.verdicts.Policy.TheVariants.{FMatrix, Datacycle, RMatrix}
use Rattle.air_history.specs.declared.histories.Event.{Event}
use Rattle.air_history.specs.declared.histories.Event.TheVariants.{Start}
use Rattle.air_history.specs.declared.updates.Write.{Write}
use Rattle.air_history.specs.ClashLaws.{cycle_in}
use Rattle.air_history.specs.Clashes.{HeardRead, entry_in, entry_of, first_heard, heard_clash, lesser, least, named_clash, newest_heard, read_at}
use Rattle.air_history.specs.Columns.{aired_entries, column_entry, scheme_of, vector_entry}
use Rattle.air_history.specs.Descents.{descends, descends_in}
use Rattle.air_history.specs.Histories.{cycle_at, event_at, front, is_start, reads, writer, writer_before, writes}
use Rattle.air_history.specs.Places.{greatest, last_place, place_and, same_place}
use Rattle.air_history.specs.Reads.{ReadAt, first_cycle, last_cycle, newest_cycle}
use Rattle.air_history.specs.Tables.{value_after_write, value_of_write, value_on_base, values_of}
use Rattle.air_history.specs.UpdateRules.{base_holds, base_is_read, within_limits, written_item}
use Rattle.air_history.proofs.HistoryExamples.{add_to, commit, set_to}

-- A read of an item in a cycle, and the same read as it was heard with entries.
abbrev at : ℕ → ℕ → ReadAt
at item cycle = record { item = item; cycle = cycle }

abbrev heard : ℕ → ℕ → List ℕ → HeardRead
heard item cycle entries = record { item = item; cycle = cycle; entries = entries }

-- A clash with a read.
abbrev clash_at : ℕ → ℕ → Option Clash
clash_at item cycle = Some (record { item = item; cycle = cycle })

-- Three reads: the middle one is of the newest cycle.
abbrev three : List ReadAt
three = at 5 2 ∷ at 6 4 ∷ at 7 3 ∷ []

abbrev three_heard : List HeardRead
three_heard = heard 5 2 (9 ∷ 1 ∷ []) ∷ heard 6 4 (8 ∷ 2 ∷ []) ∷ heard 7 4 (7 ∷ 3 ∷ []) ∷ []

-- Item 0 becomes 11 in cycle 1, and item 1 becomes item 0 plus 1 in cycle 2.
abbrev one_by_one : List Event
one_by_one = Start ∷ commit 0 [] (set_to 0 11) ∷ Start ∷ commit 1 (0 ∷ []) (add_to 1 0 1) ∷ Start ∷ []

-- A write of a base minus an amount.
abbrev less : Write
less = record { item = 2; base = Some 1; minus = true; amount = 21 }

pub record Words : Type 0 where
  -- places
  no_place : place_and None (λ p. true) ≡ false
  this_place : place_and (Some 3) (λ p. p == 3) ≡ true
  other_place : place_and (Some 4) (λ p. p == 3) ≡ false
  neither : same_place None None ≡ true
  left_alone : same_place (Some 0) None ≡ false
  right_alone : same_place None (Some 0) ≡ false
  same : same_place (Some 2) (Some 2) ≡ true
  another : same_place (Some 2) (Some 3) ≡ false
  event : event_at one_by_one 1 ≡ commit 0 [] (set_to 0 11)
  -- cycles of reads
  newest : newest_cycle three ≡ 4
  first : first_cycle three ≡ 2
  last : last_cycle three ≡ 3
  none_read : last_cycle [] ≡ 0
  second : cycle_in three 1 ≡ 4
  -- clashes: of two of one item the first is taken; of two items the lesser
  lesser_item : lesser (at 5 2) (clash_at 6 4) ≡ clash_at 5 2
  same_item : lesser (at 5 2) (clash_at 5 4) ≡ clash_at 5 2
  greater_item : lesser (at 7 2) (clash_at 6 4) ≡ clash_at 6 4
  alone : lesser (at 7 2) None ≡ clash_at 7 2
  named : named_clash (λ r. r.cycle == 3) three ≡ clash_at 7 3
  none_named : named_clash (λ r. r.cycle == 5) three ≡ None
  -- what was heard with reads
  without_entries : read_at (heard 5 2 (9 ∷ [])) ≡ at 5 2
  entry : entry_of (heard 5 2 (9 ∷ 1 ∷ [])) 1 ≡ 1
  no_entry : entry_of (heard 5 2 (9 ∷ 1 ∷ [])) 2 ≡ 0
  -- of two reads of one cycle, the first one's entries
  entry_of_first : entry_in three_heard 4 0 ≡ 8
  entry_of_none : entry_in three_heard 3 0 ≡ 0
  heard_named : heard_clash (λ r. r.cycle == 4) three_heard ≡ clash_at 6 4
  heard_newest : newest_heard three_heard ≡ 4
  heard_first : first_heard three_heard ≡ 2
  -- the column of item 1 in cycle 3 has both commits, the vector has the last writers
  aired_column : aired_entries (scheme_of FMatrix) 3 one_by_one 3 1 ≡ 1 ∷ 2 ∷ 0 ∷ []
  aired_first : aired_entries (scheme_of FMatrix) 3 one_by_one 3 0 ≡ 1 ∷ 0 ∷ 0 ∷ []
  aired_vector : aired_entries (scheme_of Datacycle) 3 one_by_one 3 0 ≡ 1 ∷ 2 ∷ 0 ∷ []
  aired_early : aired_entries (scheme_of RMatrix) 3 one_by_one 2 0 ≡ 1 ∷ 0 ∷ 0 ∷ []
  -- values: a difference wraps at 2^64, and an item outside the list has 0
  set_value : value_of_write (values_of (10 ∷ 20 ∷ [])) (record { item = 0; base = None; minus = false; amount = 7 }) ≡ 7
  lesser_value : value_of_write (values_of (10 ∷ 20 ∷ [])) less ≡ 2 ^ 64 - 1
  unwritten : value_after_write (values_of (10 ∷ 20 ∷ [])) 1 None ≡ 20
  written : value_after_write (values_of (10 ∷ 22 ∷ [])) 2 (Some less) ≡ 1
  -- updates: at most 16 reads and 16 writes, and at least one write
  one_write : within_limits [] (less ∷ []) ≡ true
  no_write : within_limits [] [] ≡ false
  no_base : base_holds [] false None ≡ true
  minus_alone : base_holds [] true None ≡ false
  base_read : base_is_read (0 ∷ 1 ∷ []) less ≡ true
  base_unread : base_is_read (0 ∷ 2 ∷ []) less ≡ false
  written_item : written_item less ≡ 2

words : Words
unfolding value_on_base column_entry vector_entry descends descends_in writer writer_before writes reads is_start front cycle_at greatest last_place least
words = record {
  no_place = refl;
  this_place = refl;
  other_place = refl;
  neither = refl;
  left_alone = refl;
  right_alone = refl;
  same = refl;
  another = refl;
  event = refl;
  newest = refl;
  first = refl;
  last = refl;
  none_read = refl;
  second = refl;
  lesser_item = refl;
  same_item = refl;
  greater_item = refl;
  alone = refl;
  named = refl;
  none_named = refl;
  without_entries = refl;
  entry = refl;
  no_entry = refl;
  entry_of_first = refl;
  entry_of_none = refl;
  heard_named = refl;
  heard_newest = refl;
  heard_first = refl;
  aired_column = refl;
  aired_first = refl;
  aired_vector = refl;
  aired_early = refl;
  set_value = refl;
  lesser_value = refl;
  unwritten = refl;
  written = refl;
  one_write = refl;
  no_write = refl;
  no_base = refl;
  minus_alone = refl;
  base_read = refl;
  base_unread = refl;
  written_item = refl;
}
