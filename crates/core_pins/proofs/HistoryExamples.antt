-- Small histories at their ends: a commit before the first start, an update of two writes, no read at all, and reads of the newest cycle.
use Rattle.std.specs.Prelude.{◌≡◌, ℕ, List, [], ◌∷◌, Some, true, false, refl}
use Rattle.air_base.specs.declared.verdicts.Policy.{Policy}
use Rattle.air_base.specs.declared.verdicts.Policy.TheVariants.{FMatrix, Datacycle}
use Rattle.air_history.specs.declared.histories.Event.{Event}
use Rattle.air_history.specs.declared.histories.Event.TheVariants.{Commit, Start}
use Rattle.air_history.specs.Histories.{reads, writes, front, is_start, cycle_at, writer, writer_before}
use Rattle.air_history.specs.Places.{last_place, greatest}
use Rattle.air_history.specs.Descents.{descends, descends_in}
use Rattle.air_history.specs.Columns.{column_entry, vector_entry, policy_entries}
use Rattle.air_history.specs.Tables.{BasesRead, values_of}
use Rattle.air_history.specs.Reads.{ReadAt, first_cycle, origin, stale}
use Rattle.air_history.specs.Consistency.{alone, descends_from, last_alone, picked_events, runs_alone}
use Rattle.air_history.specs.Clashes.{HeardRead, clash_by_entries, clash_by_history, is_late, least}
use Rattle.air_history.specs.ClashLaws.{current_cycle}
use Rattle.core_pins.specs.Commits.{add_to, commit, set_to}

abbrev at : ℕ → ℕ → ReadAt
at i c = record { item = i; cycle = c }

-- The read as a receiver hears it, over three items.
abbrev heard_at : Policy → List Event → ReadAt → HeardRead
heard_at policy H r = record { item = r.item; cycle = r.cycle; entries = policy_entries policy 3 H r.cycle r.item }

-- The items 0 and 1 are written by one update.
abbrev of_two : Event
of_two = Commit 0 0 (record { reads = []; writes = set_to 0 1 ∷ set_to 1 2 ∷ [] })

-- A commit before the first start, and one that reads what it wrote.
abbrev unstarted : List Event
unstarted = commit 0 [] (set_to 0 11) ∷ commit 1 (0 ∷ []) (add_to 1 0 1) ∷ []

-- The items 0 and 1 are written in cycle 1.
abbrev both_written : List Event
both_written = Start ∷ of_two ∷ Start ∷ []

-- Only item 2 is written, in cycle 2.
abbrev two_later : List Event
two_later = Start ∷ Start ∷ commit 0 [] (set_to 2 5) ∷ Start ∷ []

pub record Ends : Type 0 where
  -- each of an update's writes counts, and no other item
  writes_first : writes of_two 0 ≡ true
  writes_second : writes of_two 1 ≡ true
  writes_no_other : writes of_two 2 ≡ false
  -- the first event of all descends from itself, and not from the one after it
  own_ancestor : descends unstarted 0 0 ≡ true
  not_of_the_later : descends unstarted 0 1 ≡ false
  of_the_first : descends unstarted 1 0 ≡ true
  -- the last event of all runs alone for a read of its write
  last_runs : last_alone unstarted (at 1 1 ∷ []) 1 ≡ Some 1
  all_run : alone unstarted (at 1 1 ∷ []) ≡ unstarted
  -- it is enough that the first of two reads descends from an event
  first_alone : runs_alone unstarted (at 1 1 ∷ at 2 1 ∷ []) 1 ≡ true
  -- with no read the first cycle is 0, and an item after the catalog's last has the value 0
  of_no_read : first_cycle [] ≡ 0
  past_the_catalog : values_of (10 ∷ []) 1 ≡ 0
  -- a start has no base, so all its bases are read
  start_reads_bases : BasesRead Start
  -- the current cycle is that of the last read if no earlier one is stale there, and 0 without a read
  last_is_current : current_cycle both_written (at 2 1 ∷ at 1 2 ∷ []) ≡ 2
  none_is_current : current_cycle both_written [] ≡ 0
  -- the column has an entry for each item, in any cycle
  three_entries : policy_entries FMatrix 3 both_written 2 1 ≡ 1 ∷ 1 ∷ 0 ∷ []
  entries_of_cycle_one : policy_entries FMatrix 3 both_written 1 1 ≡ 0 ∷ 0 ∷ 0 ∷ []

ends : Ends
unfolding writes reads descends descends_in alone picked_events last_alone runs_alone descends_from origin stale current_cycle column_entry greatest writer writer_before last_place front is_start cycle_at BasesRead
ends = record {
  writes_first = refl;
  writes_second = refl;
  writes_no_other = refl;
  own_ancestor = refl;
  not_of_the_later = refl;
  of_the_first = refl;
  last_runs = refl;
  all_run = refl;
  first_alone = refl;
  of_no_read = refl;
  past_the_catalog = refl;
  start_reads_bases = tt;
  last_is_current = refl;
  none_is_current = refl;
  three_entries = refl;
  entries_of_cycle_one = refl;
}

pub record OfTheNewest : Type 0 where
  -- under Datacycle no read is late
  never_late : is_late Datacycle (at 0 2 ∷ []) (at 1 1) ≡ false
  -- a read of the newest held cycle clashes with the held one that is stale there
  stale_held : clash_by_history Datacycle both_written (at 0 1 ∷ at 1 2 ∷ []) (at 2 2) ≡ Some (record { item = 0; cycle = 1 })
  stale_heard : clash_by_entries Datacycle (heard_at Datacycle both_written (at 0 1) ∷ heard_at Datacycle both_written (at 1 2) ∷ []) (heard_at Datacycle both_written (at 2 2)) ≡ Some (record { item = 0; cycle = 1 })
  -- the newest held cycle is here that of the first held read
  first_is_newest : clash_by_history Datacycle two_later (at 1 3 ∷ at 0 1 ∷ []) (at 2 2) ≡ Some (record { item = 1; cycle = 3 })
  first_heard_is_newest : clash_by_entries Datacycle (heard_at Datacycle two_later (at 1 3) ∷ heard_at Datacycle two_later (at 0 1) ∷ []) (heard_at Datacycle two_later (at 2 2)) ≡ Some (record { item = 1; cycle = 3 })

of_the_newest : OfTheNewest
unfolding is_late clash_by_history clash_by_entries least stale vector_entry greatest writer writer_before last_place writes front is_start cycle_at
of_the_newest = record {
  never_late = refl;
  stale_held = refl;
  stale_heard = refl;
  first_is_newest = refl;
  first_heard_is_newest = refl;
}
