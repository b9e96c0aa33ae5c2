-- Small histories, computed: which reads are consistent, and which clash under each policy.
use Rattle.std.specs.Prelude.{◌≡◌, ℕ, List, [], ◌∷◌, Option, Some, None, true, false, refl}
use Rattle.air_base.specs.declared.verdicts.Policy.{Policy}
use Rattle.air_base.specs.declared.verdicts.Policy.TheVariants.{FMatrix, Datacycle, RMatrix}
use Rattle.air_base.specs.declared.verdicts.Clash.{Clash}
use Rattle.air_history.specs.declared.histories.Event.{Event}
use Rattle.air_history.specs.declared.histories.Event.TheVariants.{Start}
use Rattle.air_history.specs.Places.{last_place, greatest}
use Rattle.air_history.specs.Histories.{is_start, reads, writes, cycle_at, front, writer_before, writer}
use Rattle.air_history.specs.Descents.{descends_in, descends}
use Rattle.air_history.specs.Columns.{column_entry, vector_entry, policy_entries}
use Rattle.air_history.specs.Tables.{value_on_base, write_of, value_after, table}
use Rattle.air_history.specs.Reads.{ReadAt, origin, stale, read_value}
use Rattle.air_history.specs.Consistency.{descends_from, runs_alone, picked_events, alone, last_alone, consistent}
use Rattle.air_history.specs.Clashes.{least, is_late, clash_by_history, HeardRead, clash_by_entries}
use Rattle.air_history.specs.ClashLaws.{current_cycle}
use Rattle.air_history.proofs.HistoryExamples.{set_to, add_to, commit, chain_history, then_blind, tens}

abbrev pub at : ℕ → ℕ → ReadAt
at i c = record { item = i; cycle = c }

-- The read as a receiver hears it.
abbrev pub heard_of_two : Policy → List Event → ℕ → ℕ → HeardRead
heard_of_two policy H i c = record { item = i; cycle = c; entries = policy_entries policy 2 H c i }

-- The same for a read, over three items.
abbrev heard_at : Policy → List Event → ReadAt → HeardRead
heard_at policy H r = record { item = r.item; cycle = r.cycle; entries = policy_entries policy 3 H r.cycle r.item }

-- A heard read over four items.
abbrev of_four : ℕ → ℕ → List ℕ → HeardRead
of_four i c entries = record { item = i; cycle = c; entries = entries }

-- Both items are written in cycle 1, by updates that read nothing.
abbrev pub apart : List Event
apart = Start ∷ commit 0 [] (set_to 0 11) ∷ commit 1 [] (set_to 1 21) ∷ Start ∷ []

-- Item 0 alone is written.
abbrev pub one_written : List Event
one_written = Start ∷ commit 0 [] (set_to 0 11) ∷ Start ∷ []

-- Item 1 is written in cycle 1, then item 2 with what was read of item 1.
abbrev one_then_two : List Event
one_then_two = Start ∷ commit 0 [] (set_to 1 5) ∷ commit 1 (1 ∷ []) (add_to 2 1 1) ∷ Start ∷ []

-- Item 2 is written in cycle 2 alone.
abbrev two_later : List Event
two_later = Start ∷ Start ∷ commit 0 [] (set_to 2 5) ∷ Start ∷ []

-- The items 0 and 2 are written in cycle 1.
abbrev ends_written : List Event
ends_written = Start ∷ commit 0 [] (set_to 0 11) ∷ commit 1 [] (set_to 2 31) ∷ Start ∷ Start ∷ []

-- Each of three items is written in cycle 1, by updates that read nothing.
abbrev all_written : List Event
all_written = Start ∷ commit 0 [] (set_to 0 1) ∷ commit 1 [] (set_to 1 1) ∷ commit 2 [] (set_to 2 1) ∷ Start ∷ []

-- A clash with item 0 of cycle 1.
abbrev pub with_first : Option Clash
with_first = Some (record { item = 0; cycle = 1 })

-- The clash of item 1 of cycle 2 with item 0 of cycle 1, by the history and by the entries.
abbrev Both : Policy → List Event → Option Clash → Type 0
Both policy H answer =
    (clash_by_history policy H (at 0 1 ∷ []) (at 1 2) ≡ answer)
    × (clash_by_entries policy (heard_of_two policy H 0 1 ∷ []) (heard_of_two policy H 1 2) ≡ answer)

-- The clash of item 2 in a cycle with two held reads, by the history and by the entries, over three items.
abbrev OfTwo : Policy → List Event → ReadAt → ReadAt → ℕ → Option Clash → Type 0
OfTwo policy H r s c answer =
    (clash_by_history policy H (r ∷ s ∷ []) (at 2 c) ≡ answer)
    × (clash_by_entries policy (heard_at policy H r ∷ heard_at policy H s ∷ []) (heard_at policy H (at 2 c)) ≡ answer)

pub record Consistency : Type 0 where
  -- item 1 of cycle 2 descends from a write of item 0 that the first read hasn't seen
  chain : consistent chain_history (at 0 1 ∷ at 1 2 ∷ []) ≡ false
  one_cycle : consistent chain_history (at 0 2 ∷ at 1 2 ∷ []) ≡ true
  -- no single cycle has both, but they are consistent
  no_cycle : consistent apart (at 0 1 ∷ at 1 2 ∷ []) ≡ true
  blind : consistent then_blind (at 0 1 ∷ at 1 3 ∷ []) ≡ true
  -- what runs alone for item 2 of cycle 2: the first two commits
  alone_for_two : alone chain_history (at 2 2 ∷ []) ≡ commit 0 [] (set_to 0 11) ∷ commit 1 (0 ∷ []) (add_to 2 0 1) ∷ []
  value : read_value (Rattle.air_history.specs.Tables.values_of tens) chain_history (at 2 2) ≡ 12

pub consistency : Consistency
unfolding consistent alone picked_events last_alone runs_alone descends_from origin table value_after write_of value_on_base writer writer_before last_place writes descends descends_in reads front
consistency = record { chain = refl; one_cycle = refl; no_cycle = refl; blind = refl; alone_for_two = refl; value = refl }

pub record Clashes : Type 0 where
  f_matrix_apart : Both FMatrix apart None
  datacycle_apart : Both Datacycle apart with_first
  r_matrix_apart : Both RMatrix apart with_first
  f_matrix_chain : Both FMatrix chain_history with_first
  f_matrix_one : Both FMatrix one_written None
  datacycle_one : Both Datacycle one_written with_first
  r_matrix_one : Both RMatrix one_written None
  -- only under R-Matrix does an older read come late; Datacycle names what it holds of the newest cycle
  late : is_late RMatrix (at 0 2 ∷ []) (at 1 1) ≡ true
  in_time : is_late FMatrix (at 0 2 ∷ []) (at 1 1) ≡ false
  in_time_too : is_late Datacycle (at 0 2 ∷ []) (at 1 1) ≡ false
  older : clash_by_history Datacycle apart (at 0 2 ∷ []) (at 1 1) ≡ Some (record { item = 0; cycle = 2 })
  -- the least item number is named, in any order of reading
  least_named : clash_by_history Datacycle apart (at 1 1 ∷ at 0 1 ∷ []) (at 2 2) ≡ with_first
  -- of two stale held reads the one with the least item number is named, even if it was read last
  least_of_two : (OfTwo Datacycle all_written (at 1 1) (at 0 1) 2 with_first × OfTwo Datacycle all_written (at 0 1) (at 1 1) 2 with_first)
      × (OfTwo RMatrix all_written (at 1 1) (at 0 1) 2 with_first × OfTwo RMatrix all_written (at 0 1) (at 1 1) 2 with_first)
  -- a held read with a lesser item number that doesn't clash isn't named: item 0 isn't written, item 1 is
  not_the_least_held : OfTwo FMatrix one_then_two (at 0 1) (at 1 1) 2 (Some (record { item = 1; cycle = 1 }))
      × OfTwo Datacycle one_then_two (at 0 1) (at 1 1) 2 (Some (record { item = 1; cycle = 1 }))
      × OfTwo RMatrix one_then_two (at 0 1) (at 1 1) 2 (Some (record { item = 1; cycle = 1 }))
  -- for a read of an older cycle, Datacycle names a held read of the newest cycle, and not item 0 of cycle 1
  of_the_newest : OfTwo Datacycle two_later (at 0 1) (at 1 3) 2 (Some (record { item = 1; cycle = 3 }))
  -- of two held reads of the newest cycle it names the one with the least item number, in any order of reading
  least_of_the_newest : OfTwo Datacycle two_later (at 1 3) (at 0 3) 2 (Some (record { item = 0; cycle = 3 }))
      × OfTwo Datacycle two_later (at 0 3) (at 1 3) 2 (Some (record { item = 0; cycle = 3 }))
  -- it uses the entries of the first held read of that cycle
  first_of_the_newest : (clash_by_entries Datacycle (of_four 1 3 (0 ∷ 0 ∷ 2 ∷ 0 ∷ []) ∷ of_four 0 3 (0 ∷ 0 ∷ 0 ∷ 0 ∷ []) ∷ []) (of_four 2 2 (0 ∷ 0 ∷ 0 ∷ 0 ∷ [])) ≡ Some (record { item = 0; cycle = 3 }))
      × (clash_by_entries Datacycle (of_four 0 3 (0 ∷ 0 ∷ 0 ∷ 0 ∷ []) ∷ of_four 1 3 (0 ∷ 0 ∷ 2 ∷ 0 ∷ []) ∷ []) (of_four 2 2 (0 ∷ 0 ∷ 0 ∷ 0 ∷ [])) ≡ None)
      × (clash_by_entries Datacycle (of_four 0 3 (0 ∷ 0 ∷ 2 ∷ 0 ∷ []) ∷ of_four 1 3 (0 ∷ 0 ∷ 0 ∷ 0 ∷ []) ∷ []) (of_four 2 2 (0 ∷ 0 ∷ 0 ∷ 0 ∷ [])) ≡ Some (record { item = 0; cycle = 3 }))
  -- R-Matrix names the held read that is stale at the new cycle: item 0, which was written, and not item 1
  stale_one : OfTwo RMatrix ends_written (at 0 1) (at 1 2) 3 with_first
  -- the reads of items 0 and 1 share the first cycle, since item 1 isn't written
  shares : current_cycle one_written (at 0 1 ∷ at 1 2 ∷ []) ≡ 1

pub clashes : Clashes
unfolding clash_by_history clash_by_entries is_late least stale consistent last_alone runs_alone descends_from origin column_entry vector_entry greatest writer writer_before last_place writes descends descends_in reads front cycle_at is_start current_cycle
clashes = record {
  f_matrix_apart = (refl, refl);
  datacycle_apart = (refl, refl);
  r_matrix_apart = (refl, refl);
  f_matrix_chain = (refl, refl);
  f_matrix_one = (refl, refl);
  datacycle_one = (refl, refl);
  r_matrix_one = (refl, refl);
  late = refl;
  in_time = refl;
  in_time_too = refl;
  older = refl;
  least_named = refl;
  least_of_two = (((refl, refl), (refl, refl)), ((refl, refl), (refl, refl)));
  not_the_least_held = ((refl, refl), (refl, refl), (refl, refl));
  of_the_newest = (refl, refl);
  least_of_the_newest = ((refl, refl), (refl, refl));
  first_of_the_newest = (refl, refl, refl);
  stale_one = (refl, refl);
  shares = refl;
}
