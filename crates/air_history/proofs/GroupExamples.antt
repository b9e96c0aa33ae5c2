-- Groups of items, computed: which items a group has, what is aired by groups, and which reads clash by groups alone.
use Rattle.std.proofs.Common.{◌≡◌, ℕ, zero, suc, ◌<◌, List, [], ◌∷◌, map, Option, Some, None, true, false, refl, ap, arith}
use Rattle.air_base.specs.declared.verdicts.Policy.{Policy}
use Rattle.air_base.specs.declared.verdicts.Policy.TheVariants.{FMatrix, Datacycle, RMatrix}
use Rattle.air_base.specs.declared.verdicts.Clash.{Clash}
use Rattle.air_history.specs.declared.histories.Event.{Event}
use Rattle.air_history.specs.declared.histories.Event.TheVariants.{Start}
use Rattle.air_history.specs.Places.{last_place, greatest, greatest_of}
use Rattle.air_history.specs.Histories.{is_start, reads, writes, event_at, cycle_at, front, writer_before, writer}
use Rattle.air_history.specs.Descents.{descends_in, descends}
use Rattle.air_history.specs.Columns.{aired_entries, airs_groups, column_entry, group_column, group_entry, group_of, group_scheme, has_groups, scheme_of, vector_entry}
use Rattle.air_history.specs.Reads.{ReadAt, origin, stale}
use Rattle.air_history.specs.Consistency.{consistent, descends_from, last_alone, runs_alone}
use Rattle.air_history.specs.Clashes.{HeardRead, clash_by_entries, clash_by_history, clash_of, group_clash, is_late, least}
use Rattle.air_history.specs.ClashLaws.{IsWrittenBetween, passes}
use Rattle.air_history.proofs.HistoryExamples.{add_to, commit, set_to}
use Rattle.air_history.proofs.ClashExamples.{apart, at, one_written, with_first}

pub record Groups : Type 0 where
  -- by twos the items 0 and 1 are together, and item 2 is alone in the last group
  twos : map (group_of 2 3) (0 ∷ 1 ∷ 2 ∷ []) ≡ (0 ∷ 1 ∷ []) ∷ (0 ∷ 1 ∷ []) ∷ (2 ∷ []) ∷ []
  threes : map (group_of 3 7) (2 ∷ 5 ∷ 6 ∷ []) ≡ (0 ∷ 1 ∷ 2 ∷ []) ∷ (3 ∷ 4 ∷ 5 ∷ []) ∷ (6 ∷ []) ∷ []
  ones : map (group_of 1 3) (0 ∷ 1 ∷ 2 ∷ []) ≡ (0 ∷ []) ∷ (1 ∷ []) ∷ (2 ∷ []) ∷ []
  -- a group of more than all items has all
  all : map (group_of 1024 3) (0 ∷ 2 ∷ []) ≡ (0 ∷ 1 ∷ 2 ∷ []) ∷ (0 ∷ 1 ∷ 2 ∷ []) ∷ []
  -- an item beyond the n is of its group all the same
  beyond : group_of 4 3 5 ≡ 5 ∷ []

pub groups : Groups
groups = record { twos = refl; threes = refl; ones = refl; all = refl; beyond = refl }

-- In cycle 2 item 2 is set, and then item 1 to what was read of item 2 and 1.
abbrev pub two_then_one : List Event
two_then_one = Start ∷ Start ∷ commit 0 [] (set_to 2 31) ∷ commit 1 (2 ∷ []) (add_to 1 2 1) ∷ Start ∷ []

-- What F-Matrix airs with the items 0, 1 and 2 in cycle 3, by groups of g.
abbrev by_groups_of : ℕ → List (List ℕ)
by_groups_of g = map (aired_entries (group_scheme g) 3 two_then_one 3) (0 ∷ 1 ∷ 2 ∷ [])

-- What a policy would air with them were it to have groups of two.
abbrev by_twos : Policy → List (List ℕ)
by_twos policy = map (aired_entries (record { policy = policy; group = 2 }) 3 two_then_one 3) (0 ∷ 1 ∷ 2 ∷ [])

pub record AiredColumns : Type 0 where
  without : by_groups_of 0 ≡ (0 ∷ 0 ∷ 0 ∷ []) ∷ (0 ∷ 2 ∷ 2 ∷ []) ∷ (0 ∷ 0 ∷ 2 ∷ []) ∷ []
  ones : by_groups_of 1 ≡ (0 ∷ 0 ∷ 0 ∷ []) ∷ (0 ∷ 2 ∷ 2 ∷ []) ∷ (0 ∷ 0 ∷ 2 ∷ []) ∷ []
  twos : by_groups_of 2 ≡ (0 ∷ 2 ∷ 2 ∷ []) ∷ (0 ∷ 2 ∷ 2 ∷ []) ∷ (0 ∷ 0 ∷ 2 ∷ []) ∷ []
  threes : by_groups_of 3 ≡ (0 ∷ 2 ∷ 2 ∷ []) ∷ (0 ∷ 2 ∷ 2 ∷ []) ∷ (0 ∷ 2 ∷ 2 ∷ []) ∷ []
  all : by_groups_of 1024 ≡ (0 ∷ 2 ∷ 2 ∷ []) ∷ (0 ∷ 2 ∷ 2 ∷ []) ∷ (0 ∷ 2 ∷ 2 ∷ []) ∷ []
  -- the write vector has no groups
  of_datacycle : by_twos Datacycle ≡ (0 ∷ 2 ∷ 2 ∷ []) ∷ (0 ∷ 2 ∷ 2 ∷ []) ∷ (0 ∷ 2 ∷ 2 ∷ []) ∷ []
  of_r_matrix : by_twos RMatrix ≡ (0 ∷ 2 ∷ 2 ∷ []) ∷ (0 ∷ 2 ∷ 2 ∷ []) ∷ (0 ∷ 2 ∷ 2 ∷ []) ∷ []
  -- the group column of item 0 is that of item 1, with which it is together; item 2 is alone
  shared : map (group_column 2 3 two_then_one) (0 ∷ 1 ∷ 2 ∷ []) ≡ (0 ∷ 2 ∷ 2 ∷ []) ∷ (0 ∷ 2 ∷ 2 ∷ []) ∷ (0 ∷ 0 ∷ 2 ∷ []) ∷ []
  -- only F-Matrix airs by groups, and only by groups of some items
  airing : map (airs_groups FMatrix) (0 ∷ 1 ∷ 2 ∷ []) ≡ false ∷ true ∷ true ∷ []
  never : (airs_groups Datacycle 2 ≡ false) × (airs_groups RMatrix 2 ≡ false)
  schemes : (has_groups (group_scheme 2) ≡ true) × (has_groups (group_scheme 0) ≡ false) × (has_groups (scheme_of FMatrix) ≡ false)

pub aired_columns : AiredColumns
unfolding group_entry greatest_of column_entry vector_entry greatest writer writer_before last_place writes descends descends_in reads front cycle_at is_start
aired_columns = record {
  without = refl;
  ones = refl;
  twos = refl;
  threes = refl;
  all = refl;
  of_datacycle = refl;
  of_r_matrix = refl;
  shared = refl;
  airing = refl;
  never = (refl, refl);
  schemes = (refl, refl, refl);
}

-- A read as a receiver hears it, by groups of g over n items.
abbrev heard_in : ℕ → ℕ → List Event → ReadAt → HeardRead
heard_in g n H r = record { item = r.item; cycle = r.cycle; entries = aired_entries (group_scheme g) n H r.cycle r.item }

-- The clash of a new read with held ones by groups of g over n items, by the history and by the entries.
abbrev Both : ℕ → ℕ → List Event → List ReadAt → ReadAt → Option Clash → Type 0
Both g n H R x answer =
    (clash_of (group_scheme g) n H R x ≡ answer)
    × (clash_by_entries FMatrix (map (heard_in g n H) R) (heard_in g n H x) ≡ answer)

-- A clash with item 0 of cycle 3.
abbrev with_third : Option Clash
with_third = Some (record { item = 0; cycle = 3 })

pub record GroupClashes : Type 0 where
  -- the items 0 and 1 are written in cycle 1: item 1 of cycle 2 doesn't clash with item 0 of cycle 1 but where they are of one group
  apart_without : Both 0 2 apart (at 0 1 ∷ []) (at 1 2) None
  apart_by_ones : Both 1 2 apart (at 0 1 ∷ []) (at 1 2) None
  apart_by_twos : Both 2 2 apart (at 0 1 ∷ []) (at 1 2) with_first
  apart_by_all : Both 1024 2 apart (at 0 1 ∷ []) (at 1 2) with_first
  -- where item 0 alone is written too
  one_by_twos : Both 2 3 one_written (at 0 1 ∷ []) (at 1 2) with_first
  -- and item 2 is of another group, but for one of all
  other_group : Both 2 3 one_written (at 0 1 ∷ []) (at 2 2) None
  other_by_threes : Both 3 3 one_written (at 0 1 ∷ []) (at 2 2) with_first
  -- an item that wasn't written clashes with none
  unwritten : Both 1024 3 one_written (at 1 1 ∷ []) (at 2 2) None
  -- where the held read is newer, its own group is asked: item 0 is with item 1, which descends from the write of item 2
  newer_held : Both 2 3 two_then_one (at 0 3 ∷ []) (at 2 2) with_third
  newer_without : Both 0 3 two_then_one (at 0 3 ∷ []) (at 2 2) None
  -- and not the new one's: item 2 is alone, and with item 0 and 1 it would clash where item 0 is new
  other_newer : Both 2 3 one_written (at 2 2 ∷ []) (at 0 1) None
  -- reads of one cycle never clash
  one_cycle : Both 1024 3 two_then_one (at 0 3 ∷ at 2 3 ∷ []) (at 1 3) None
  -- the least item is named of those that clash, and not the least that is held
  least_clash : Both 1024 3 two_then_one (at 2 2 ∷ at 1 2 ∷ at 0 2 ∷ []) (at 0 3) (Some (record { item = 1; cycle = 2 }))
  -- so the read doesn't pass by groups where it does without them
  passes_without : passes (group_scheme 0) 2 apart (at 0 1 ∷ []) (at 1 2) ≡ true
  refused_by_twos : passes (group_scheme 2) 2 apart (at 0 1 ∷ []) (at 1 2) ≡ false

pub group_clashes : GroupClashes
unfolding passes clash_by_history clash_by_entries group_clash is_late least stale consistent last_alone runs_alone descends_from origin group_entry greatest_of column_entry vector_entry greatest writer writer_before last_place writes descends descends_in reads front cycle_at is_start
group_clashes = record {
  apart_without = (refl, refl);
  apart_by_ones = (refl, refl);
  apart_by_twos = (refl, refl);
  apart_by_all = (refl, refl);
  one_by_twos = (refl, refl);
  other_group = (refl, refl);
  other_by_threes = (refl, refl);
  unwritten = (refl, refl);
  newer_held = (refl, refl);
  newer_without = (refl, refl);
  other_newer = (refl, refl);
  one_cycle = (refl, refl);
  least_clash = (refl, refl);
  passes_without = refl;
  refused_by_twos = refl;
}

-- ---- what is written between two cycles

pub record Between : Type 0 where
  -- item 2 is written in cycle 2: from cycle 1 or 2 on, and before cycle 3
  from_one : IsWrittenBetween two_then_one 2 1 3
  from_two : IsWrittenBetween two_then_one 2 2 3
  -- not from cycle 3 on, nor before cycle 2
  not_later : IsWrittenBetween two_then_one 2 3 4 → ⊥
  not_earlier : IsWrittenBetween two_then_one 2 1 2 → ⊥
  -- and item 0 isn't written at all
  never : IsWrittenBetween two_then_one 0 1 3 → ⊥

-- Which place writes item 2, and that none writes item 0.
writes_two : (p : ℕ) → p < 5 → writes (event_at two_then_one p) 2 ≡ true → p ≡ 2
unfolding writes
writes_two zero l e = cc
writes_two (suc zero) l e = cc
writes_two (suc (suc zero)) l e = refl
writes_two (suc (suc (suc zero))) l e = cc
writes_two (suc (suc (suc (suc zero)))) l e = cc
writes_two (suc (suc (suc (suc (suc p))))) l e = absurd (omega arith)

writes_no_zero : (p : ℕ) → p < 5 → writes (event_at two_then_one p) 0 ≡ true → ⊥
unfolding writes
writes_no_zero zero l e = cc
writes_no_zero (suc zero) l e = cc
writes_no_zero (suc (suc zero)) l e = cc
writes_no_zero (suc (suc (suc zero))) l e = cc
writes_no_zero (suc (suc (suc (suc zero)))) l e = cc
writes_no_zero (suc (suc (suc (suc (suc p))))) l e = absurd (omega arith)

-- So what writes item 2 is of cycle 2.
of_cycle_two : (p : ℕ) → p < 5 → writes (event_at two_then_one p) 2 ≡ true → cycle_at two_then_one p ≡ 2
unfolding cycle_at is_start
of_cycle_two p l e = ap (cycle_at two_then_one) (writes_two p l e)

pub between : Between
unfolding writes cycle_at is_start
between = record {
  from_one = (2, omega arith, refl, omega arith, omega arith);
  from_two = (2, omega arith, refl, omega arith, omega arith);
  not_later = λ w. let at = of_cycle_two w.0 w.1 w.2 in let from = w.3 in omega arith;
  not_earlier = λ w. let at = of_cycle_two w.0 w.1 w.2 in let before = w.4 in omega arith;
  never = λ w. writes_no_zero w.0 w.1 w.2;
}
