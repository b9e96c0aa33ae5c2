-- The single steps of which histories, descents, values and entries are made, computed on small histories.
use Rattle.std.proofs.Common.{◌≡◌, ◌^◌, ◌-◌, ◌==◌, ◌||◌, ℕ, [], ◌∷◌, Bool, Some, None, true, false, not, get_or, refl, arith}
use Rattle.air_history.specs.declared.histories.Event.TheVariants.{Start}
use Rattle.air_base.specs.declared.verdicts.Policy.TheVariants.{FMatrix, Datacycle}
use Rattle.air_history.specs.ClashLaws.{IsSound}
use Rattle.air_history.specs.Columns.{column_entry, group_entry}
use Rattle.air_history.specs.Consistency.{consistent, descends_from, last_alone, picked_events, runs_alone}
use Rattle.air_history.specs.Descents.{descends, descends_in}
use Rattle.air_history.specs.Histories.{cycle_at, front, is_start, reads, writer, writer_before, writes}
use Rattle.air_history.specs.Places.{greatest, greatest_of, last_place}
use Rattle.air_history.specs.Reads.{ReadAt, origin, stale}
use Rattle.air_history.specs.Tables.{value_after, value_on_base, values_of, write_of}
use Rattle.air_history.proofs.ClashExamples.{apart}
use Rattle.air_history.proofs.HistoryExamples.{add_to, chain_history, commit, set_to, take_from, tens}
use Rattle.air_history.proofs.RelationExamples.{first_then_next}

-- A read of an item in a cycle.
abbrev at : ℕ → ℕ → ReadAt
at item cycle = record { item = item; cycle = cycle }

-- Places 1 and 3.
abbrev one_or_three : ℕ → Bool
one_or_three p = (p == 1) || (p == 3)

-- Four numbers by their places.
abbrev number : ℕ → ℕ
number p = get_or (7 ∷ 9 ∷ 3 ∷ 8 ∷ []) p 0

pub record Steps : Type 0 where
  -- of places 1 and 3 the last below 5 is 3, and the last below 3 is 1; below 1 there is none
  last : last_place 5 one_or_three ≡ Some 3
  last_below : last_place 3 one_or_three ≡ Some 1
  no_last : last_place 1 one_or_three ≡ None
  -- the greatest number at places 1 and 3, and at the other places, of which only place 0 is below 2
  greatest_of_two : greatest 4 one_or_three number ≡ 9
  greatest_of_others : greatest 4 (λ p. not (p == 1)) number ≡ 8
  greatest_below : greatest 2 (λ p. not (p == 1)) number ≡ 7
  greatest_of_none : greatest 4 (λ p. false) number ≡ 0
  -- place 3 reads from place 2, and place 2 from place 1: so two steps lead to place 1, and one leads to place 2 only
  two_steps : descends_in 2 chain_history 3 1 ≡ true
  one_step : descends_in 1 chain_history 3 2 ≡ true
  too_few : descends_in 1 chain_history 3 1 ≡ false
  no_step : descends_in 0 chain_history 3 3 ≡ true
  -- before cycle 2 the last writer of item 1 is at place 3, before cycle 1 there is none
  origin_at_three : origin chain_history (at 1 2) ≡ Some 3
  from_the_catalog : origin chain_history (at 1 1) ≡ None
  -- the origin of item 1 descends from place 1, that of item 0 doesn't descend from place 3, and the catalog descends from nothing
  from_place_one : descends_from chain_history (at 1 2) 1 ≡ true
  not_from_place_three : descends_from chain_history (at 0 2) 3 ≡ false
  catalog_from_nothing : descends_from chain_history (at 1 1) 1 ≡ false
  -- the events at places 1 and 3, in order; below 3 there is the first of them alone
  two_picked : picked_events 5 chain_history one_or_three ≡ commit 0 [] (set_to 0 11) ∷ commit 2 (2 ∷ []) (add_to 1 2 1) ∷ []
  one_picked : picked_events 3 chain_history one_or_three ≡ commit 0 [] (set_to 0 11) ∷ []
  -- the write of item 2 is this one; there is none of item 0, nor in a start
  written : write_of (commit 1 (0 ∷ []) (add_to 2 0 1)) 2 ≡ Some (add_to 2 0 1)
  not_written : write_of (commit 1 (0 ∷ []) (add_to 2 0 1)) 0 ≡ None
  start_writes_nothing : write_of Start 0 ≡ None
  -- of items with the values 10, 20 and 30 item 2 becomes item 0 plus 1, and the others stay
  raised : value_after (values_of tens) (commit 1 (0 ∷ []) (add_to 2 0 1)) 2 ≡ 11
  lowered : value_after (values_of tens) (commit 1 (0 ∷ []) (take_from 2 0 1)) 2 ≡ 9
  unchanged : value_after (values_of tens) (commit 1 (0 ∷ []) (add_to 2 0 1)) 1 ≡ 20
  -- an amount alone, and an amount added to 20 and taken from it; 20 less 21 wraps
  alone : value_on_base (values_of tens) None false 7 ≡ 7
  plus : value_on_base (values_of tens) (Some 1) false 7 ≡ 27
  minus : value_on_base (values_of tens) (Some 1) true 7 ≡ 13
  wrapped : value_on_base (values_of tens) (Some 1) true 21 ≡ 2 ^ 64 - 1
  -- entry 2 of item 0 is 0 in its own column, and in that of item 1, which is in its group of two items, it is 1
  of_its_group : group_entry 2 3 chain_history 0 2 ≡ 1
  of_itself : group_entry 1 3 chain_history 0 2 ≡ 0
  -- the last group has item 2 alone
  last_group : group_entry 2 3 chain_history 2 1 ≡ 0

steps : Steps
unfolding last_place greatest greatest_of descends descends_in descends_from origin picked_events write_of value_after value_on_base group_entry column_entry writer writer_before writes reads front cycle_at is_start
steps = record {
  last = refl;
  last_below = refl;
  no_last = refl;
  greatest_of_two = refl;
  greatest_of_others = refl;
  greatest_below = refl;
  greatest_of_none = refl;
  two_steps = refl;
  one_step = refl;
  too_few = refl;
  no_step = refl;
  origin_at_three = refl;
  from_the_catalog = refl;
  from_place_one = refl;
  not_from_place_three = refl;
  catalog_from_nothing = refl;
  two_picked = refl;
  one_picked = refl;
  written = refl;
  not_written = refl;
  start_writes_nothing = refl;
  raised = refl;
  lowered = refl;
  unchanged = refl;
  alone = refl;
  plus = refl;
  minus = refl;
  wrapped = refl;
  of_its_group = refl;
  of_itself = refl;
  last_group = refl;
}

-- Item 0 of cycle 1 and item 1 of cycle 2: after the chain of commits they aren't consistent, and where each is written alone they are, but share
-- no newest cycle.
not_sound : IsSound FMatrix chain_history first_then_next → ⊥
unfolding consistent last_alone runs_alone descends_from origin descends descends_in writer writer_before writes reads front last_place
not_sound h = let e : false ≡ true = h.consistent in cc

not_of_one_cycle : IsSound Datacycle apart first_then_next → ⊥
unfolding stale writer writer_before writes front last_place
not_of_one_cycle h = let e : true ≡ false = h.shared 0 (at 0 1) (omega arith) in cc
