-- The marks and the entries of small programs.
use Rattle.std.specs.Prelude.{◌≡◌, ℕ, List, [], ◌∷◌, Some, None, map, refl}
use Rattle.air_model.specs.Disks.{Disk}
use Rattle.air_model.specs.Programs.{chunk, chunk_len, least_common_multiple, minor_cycle, num_chunks, num_minors}
use Rattle.chunk_program.specs.Editions.{Plans}
use Rattle.air_index.specs.OnAir.{IsIndex, IsSlot, ahead, entry_for, marks_at, marks_index, marks_item, marks_of, wait_for}
use Rattle.air_index.specs.IndexedTapes.{entries_for, indexed_size, mark_size}

abbrev pub disk : List ℕ → ℕ → Disk
disk items freq = record { items = items; freq = freq }

-- Plans of these disks, where those of each next edition come into force in the cycle named.
abbrev pub plans_of : List ℕ → List (List Disk) → Plans
plans_of cycles editions = record { replans = cycles; programs = map (λ disks. record { edition = 0; disks = disks }) editions; pix = [] }

-- Two items on one disk.
abbrev pub two_items : Plans
two_items = plans_of [] ((disk (0 ∷ 1 ∷ []) 1 ∷ []) ∷ [])

marks_of_two : marks_at two_items 1 ≡ IsIndex 0 ∷ IsSlot (Some 0) ∷ IsSlot (Some 1) ∷ []
unfolding chunk chunk_len least_common_multiple minor_cycle num_chunks num_minors marks_of
marks_of_two = refl

entries_of_two : (entries_for two_items 2 1 0 ≡ 1 ∷ 2 ∷ []) × (map (wait_for two_items 1) (1 ∷ 2 ∷ []) ≡ 2 ∷ 1 ∷ [])
unfolding chunk chunk_len least_common_multiple minor_cycle num_chunks num_minors marks_of ahead marks_index marks_item entry_for wait_for entries_for
entries_of_two = (refl, refl)

-- Two items on two disks, of which the first is aired twice a cycle.
abbrev pub two_disks : Plans
two_disks = plans_of [] ((disk (0 ∷ []) 2 ∷ disk (1 ∷ []) 1 ∷ []) ∷ [])

marks_of_two_disks : marks_at two_disks 1 ≡ IsIndex 0 ∷ IsSlot (Some 0) ∷ IsSlot (Some 1) ∷ IsIndex 1 ∷ IsSlot (Some 0) ∷ IsSlot None ∷ []
unfolding chunk chunk_len least_common_multiple minor_cycle num_chunks num_minors marks_of
marks_of_two_disks = refl

-- From the second index on item 1 comes in the next cycle only: idle, index, 0, 1.
entries_of_two_disks : (entries_for two_disks 2 1 0 ≡ 1 ∷ 2 ∷ []) × (entries_for two_disks 2 1 3 ≡ 1 ∷ 5 ∷ [])
unfolding chunk chunk_len least_common_multiple minor_cycle num_chunks num_minors marks_of ahead marks_index marks_item entry_for wait_for entries_for
entries_of_two_disks = (refl, refl)

-- Three items, whose program changes in cycle 2: the last index of cycle 1 counts into the next edition.
abbrev pub three_items : List ℕ → Plans
three_items cycles = plans_of cycles ((disk (0 ∷ []) 2 ∷ disk (1 ∷ 2 ∷ []) 1 ∷ []) ∷ (disk (0 ∷ 1 ∷ []) 1 ∷ disk (2 ∷ []) 2 ∷ []) ∷ [])

next_edition : (entries_for (three_items (2 ∷ [])) 3 1 0 ≡ 1 ∷ 2 ∷ 5 ∷ []) × (entries_for (three_items (2 ∷ [])) 3 1 3 ≡ 1 ∷ 7 ∷ 2 ∷ [])
    × (entries_for (three_items []) 3 1 3 ≡ 1 ∷ 5 ∷ 2 ∷ [])
unfolding chunk chunk_len least_common_multiple minor_cycle num_chunks num_minors marks_of ahead marks_index marks_item entry_for wait_for entries_for
next_edition = (refl, refl, refl)

-- One disk, and from cycle 2 on two.
abbrev pub one_then_two : Plans
one_then_two = plans_of (2 ∷ []) ((disk (0 ∷ 1 ∷ 2 ∷ []) 1 ∷ []) ∷ (disk (0 ∷ []) 2 ∷ disk (1 ∷ 2 ∷ []) 1 ∷ []) ∷ [])

other_edition : (entries_for one_then_two 3 1 0 ≡ 1 ∷ 2 ∷ 3 ∷ []) × (entries_for one_then_two 3 2 0 ≡ 1 ∷ 2 ∷ 5 ∷ []) × (entries_for one_then_two 3 2 3 ≡ 1 ∷ 5 ∷ 2 ∷ [])
unfolding chunk chunk_len least_common_multiple minor_cycle num_chunks num_minors marks_of ahead marks_index marks_item entry_for wait_for entries_for
other_edition = (refl, refl, refl)

-- The lengths of the indexed tapes of these, in version 1 and 2.
lengths : indexed_size 1 2 two_items 1 ∷ indexed_size 1 2 two_items 2 ∷ indexed_size 1 2 two_items 0 ∷ indexed_size 2 2 two_items 1 ∷ indexed_size 1 2 two_disks 2
    ∷ indexed_size 1 3 (three_items (2 ∷ [])) 1 ∷ indexed_size 1 3 one_then_two 2 ∷ [] ≡ 107 ∷ 214 ∷ 0 ∷ 95 ∷ 412 ∷ 238 ∷ 402 ∷ []
unfolding chunk chunk_len least_common_multiple minor_cycle num_chunks num_minors marks_of mark_size
lengths = refl
