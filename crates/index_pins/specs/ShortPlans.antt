-- Plans of a few items, and the plain tapes that are beamed by them.
use Rattle.std.specs.Prelude.{ℕ, List, [], ◌∷◌, ◌++◌, None}
use Rattle.air_model.specs.Disks.{Disk}
use Rattle.air_model.specs.Tapes.{TapeRead}
use Rattle.chunk_program.specs.Editions.{EditionDisks, Plans}
use Rattle.air_index.specs.Indexes.{index_bytes}
use Rattle.air_index.specs.Records.{data_bytes}
use Rattle.index_pins.specs.ShortTapes.{first_item, second_item}

-- A disk of these items, aired this often a cycle.
abbrev pub short_disk : List ℕ → ℕ → Disk
short_disk items freq = record { items = items; freq = freq }

-- An edition of these disks, numbered 0.
abbrev pub short_edition : List Disk → EditionDisks
short_edition disks = record { edition = 0; disks = disks }

-- Two items on one disk.
abbrev pub two_items : Plans
two_items = record { replans = []; programs = short_edition (short_disk (0 ∷ 1 ∷ []) 1 ∷ []) ∷ []; pix = (2 ∷ 1 ∷ []) ∷ [] }

-- Two items on two disks, of which the first is aired twice a cycle.
abbrev pub two_disks : Plans
two_disks = record { replans = []; programs = short_edition (short_disk (0 ∷ []) 2 ∷ short_disk (1 ∷ []) 1 ∷ []) ∷ []; pix = (2 ∷ 2 ∷ []) ∷ [] }

-- Three items, whose program changes in cycle 2: items 0 and 2 change their disks.
abbrev pub two_editions : Plans
two_editions = record {
  replans = 2 ∷ [];
  programs = short_edition (short_disk (0 ∷ []) 2 ∷ short_disk (1 ∷ 2 ∷ []) 1 ∷ []) ∷ short_edition (short_disk (0 ∷ 1 ∷ []) 1 ∷ short_disk (2 ∷ []) 2 ∷ []) ∷ [];
  pix = (3 ∷ 4 ∷ 2 ∷ []) ∷ (6 ∷ 4 ∷ 1 ∷ []) ∷ [];
}

-- A whole tape of these records.
abbrev pub whole : List (List ℕ) → TapeRead
whole records = record { records = records; cut = None }

-- The buckets of one minor cycle of two slots, and of two such minor cycles.
abbrev pub one_minor_cycle : List (List ℕ)
one_minor_cycle = first_item 1 ∷ second_item 1 ∷ []

abbrev pub two_minor_cycles : List (List ℕ)
two_minor_cycles = first_item 1 ∷ second_item 1 ∷ first_item 1 ∷ second_item 1 ∷ []

-- The records of a minor cycle of two slots on the indexed tape: of this cycle and this number, with these entries.
abbrev pub minor_beamed : ℕ → ℕ → List ℕ → List (List ℕ)
minor_beamed cycle minor entries = index_bytes cycle minor entries ∷ data_bytes 2 (first_item 1) ∷ data_bytes 1 (second_item 1) ∷ []

-- The records of a cycle of two disks, and those of the first cycle of two editions.
abbrev pub disks_beamed : ℕ → List (List ℕ)
disks_beamed cycle = minor_beamed cycle 0 (1 ∷ 2 ∷ []) ++ minor_beamed cycle 1 (1 ∷ 5 ∷ [])

abbrev pub editions_beamed : List (List ℕ)
editions_beamed = minor_beamed 1 0 (1 ∷ 2 ∷ 5 ∷ []) ++ minor_beamed 1 1 (1 ∷ 7 ∷ 2 ∷ [])
