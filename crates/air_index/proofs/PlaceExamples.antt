-- The marks of small tapes, and the places at which items are to be found on them.
use Rattle.std.specs.Prelude.{◌≡◌, ℕ, List, [], ◌∷◌, Some, map, refl}
use Rattle.std.proofs.Common.{arith}
use Rattle.air_model.specs.Programs.{chunk, chunk_len, least_common_multiple, minor_cycle, num_chunks, num_minors, program}
use Rattle.chunk_program.specs.Editions.{Plans}
use Rattle.air_index.specs.OnAir.{IsIndex, IsSlot, marks_index, marks_item, marks_of}
use Rattle.air_index.specs.SeekLaws.{IsInCycle, cycle_records, first_from, marks_on, opens_of, place_to_find}
use Rattle.air_index.specs.declared.sought.Sought.TheVariants.{Found, Lost}
use Rattle.air_index.proofs.OnAirExamples.{disk, one_then_two, three_items, two_disks, two_items}

-- The places at which these items are to be found on the tape of the first cycles, each from a place on.
abbrev found_at : Plans → ℕ → List (ℕ × ℕ) → List ℕ
found_at plans cycles asked = map (λ a. place_to_find (marks_on plans cycles) a.0 a.1) asked

marks_of_cycles : (marks_on two_items 0 ≡ []) × (marks_on two_items 2 ≡ IsIndex 0 ∷ IsSlot (Some 0) ∷ IsSlot (Some 1) ∷ IsIndex 0 ∷ IsSlot (Some 0) ∷ IsSlot (Some 1) ∷ [])
unfolding chunk chunk_len least_common_multiple minor_cycle num_chunks num_minors marks_of
marks_of_cycles = (refl, refl)

-- In cycle 2 the program is another one.
marks_of_editions : marks_on one_then_two 2 ≡ IsIndex 0 ∷ IsSlot (Some 0) ∷ IsSlot (Some 1) ∷ IsSlot (Some 2) ∷ IsIndex 0 ∷ IsSlot (Some 0) ∷ IsSlot (Some 1) ∷ IsIndex 1 ∷ IsSlot (Some 0) ∷ IsSlot (Some 2) ∷ []
unfolding chunk chunk_len least_common_multiple minor_cycle num_chunks num_minors marks_of
marks_of_editions = refl

-- The first index from each place of two cycles on; after the second it is at the end.
first_indexes : map (first_from marks_index (marks_on two_items 2)) (0 ∷ 1 ∷ 2 ∷ 3 ∷ 4 ∷ 5 ∷ []) ≡ 0 ∷ 3 ∷ 3 ∷ 3 ∷ 6 ∷ 6 ∷ []
unfolding chunk chunk_len least_common_multiple minor_cycle num_chunks num_minors marks_of marks_index
first_indexes = refl

-- Two items on one disk, in one cycle and in two: what is after the end is at the number of records, and there is no item 2.
found_on_one_disk : (found_at two_items 1 ((1, 0) ∷ (0, 0) ∷ (0, 1) ∷ (1, 1) ∷ (0, 2) ∷ (2, 0) ∷ []) ≡ 2 ∷ 1 ∷ 1 ∷ 3 ∷ 3 ∷ 3 ∷ [])
    × (found_at two_items 2 ((1, 1) ∷ (0, 2) ∷ (0, 4) ∷ (0, 5) ∷ []) ≡ 5 ∷ 4 ∷ 4 ∷ 6 ∷ [])
unfolding chunk chunk_len least_common_multiple minor_cycle num_chunks num_minors marks_of marks_index marks_item place_to_find
found_on_one_disk = (refl, refl)

-- Two disks, and three items whose program changes in cycle 2.
found_on_two_disks : (found_at two_disks 2 ((0, 5) ∷ (1, 5) ∷ (1, 2) ∷ (1, 7) ∷ []) ≡ 7 ∷ 8 ∷ 2 ∷ 12 ∷ []) × (found_at (three_items (2 ∷ [])) 1 ((1, 1) ∷ (1, 2) ∷ (2, 1) ∷ (0, 5) ∷ []) ≡ 6 ∷ 2 ∷ 5 ∷ 6 ∷ [])
unfolding chunk chunk_len least_common_multiple minor_cycle num_chunks num_minors marks_of marks_index marks_item place_to_find
found_on_two_disks = (refl, refl)

-- Places 3, 4 and 5 are cycle 2's, and no other ones.
second_cycle : IsInCycle two_items 3 2 × IsInCycle two_items 5 2
unfolding chunk chunk_len least_common_multiple minor_cycle num_chunks num_minors marks_of
second_cycle = (record { from_one = omega arith; after = omega arith; within = omega arith }, record { from_one = omega arith; after = omega arith; within = omega arith })

not_second : (IsInCycle two_items 2 2 → ⊥) × (IsInCycle two_items 6 2 → ⊥)
unfolding chunk chunk_len least_common_multiple minor_cycle num_chunks num_minors marks_of
not_second = (λ h. (let low = h.after in omega arith), λ h. (let high = h.within in omega arith))

-- Three records a cycle, and six: two indexes, and four slots of which one is idle.
records_of_cycles : (cycle_records (disk (0 ∷ 1 ∷ []) 1 ∷ []) ≡ 3) × (cycle_records (disk (0 ∷ []) 2 ∷ disk (1 ∷ []) 1 ∷ []) ≡ 6)
unfolding chunk chunk_len least_common_multiple minor_cycle num_chunks num_minors program
records_of_cycles = (refl, refl)

opens_told : (opens_of (Found 3 5 2 20) ≡ 3) × (opens_of (Lost 2) ≡ 2)
unfolding opens_of
opens_told = (refl, refl)
