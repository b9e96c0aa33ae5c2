-- The pins of programs and of the sender use programs of two disks.
use Rattle.std.specs.Prelude.{ℕ, List, [], ◌∷◌}
use Rattle.air_model.specs.Disks.{Disk, DiskSpec}
use Rattle.air_model.specs.Decks.{Replan}
use Rattle.chunk_program.specs.Editions.{EditionDisks}

-- A disk of these items, with this frequency.
abbrev pub disk : List ℕ → ℕ → Disk
disk items freq = record { items = items; freq = freq }

-- A disk that takes this number of items, with this frequency.
abbrev pub spec : ℕ → ℕ → DiskSpec
spec size freq = record { size = size; freq = freq }

-- Item 0 twice a cycle, the items 1 and 2 once: the slots are 0, 1, 0, 2.
abbrev pub four_slots : List Disk
four_slots = disk (0 ∷ []) 2 ∷ disk (1 ∷ 2 ∷ []) 1 ∷ []

-- Item 0 twice a cycle, item 1 once: the slots are 0, 1, 0 and an idle one.
abbrev pub idle_slot : List Disk
idle_slot = disk (0 ∷ []) 2 ∷ disk (1 ∷ []) 1 ∷ []

-- Item 0 twice a cycle, item 1 four times.
abbrev pub two_and_four : List Disk
two_and_four = disk (0 ∷ []) 2 ∷ disk (1 ∷ []) 4 ∷ []

-- The items 0 and 1 once a cycle: the slots are 0, 1.
abbrev pub two_slots : List Disk
two_slots = disk (0 ∷ 1 ∷ []) 1 ∷ []

-- These disks, in this edition.
abbrev pub in_edition : ℕ → List Disk → EditionDisks
in_edition edition disks = record { edition = edition; disks = disks }

-- A replan from this cycle on.
abbrev pub replan : ℕ → List DiskSpec → Replan
replan cycle disks = record { cycle = cycle; disks = disks }
