-- The records of short tapes of two items, in a history without a commit.
use Rattle.std.specs.Prelude.{ℕ, List, [], ◌∷◌}
use Rattle.air_model.specs.Buckets.{Vector, spelling}
use Rattle.air_index.specs.Indexes.{index_bytes}
use Rattle.air_index.specs.Records.{data_bytes}

-- The bucket of item 0, with value 10, and that of item 1, with value 20, in a cycle.
abbrev pub first_item : ℕ → List ℕ
first_item cycle = spelling (record { version = 1; edition = 0; cycle = cycle; slot = 0; body = Vector 0 10 (0 ∷ 0 ∷ []) })

abbrev pub second_item : ℕ → List ℕ
second_item cycle = spelling (record { version = 1; edition = 0; cycle = cycle; slot = 1; body = Vector 1 20 (0 ∷ 0 ∷ []) })

-- Two cycles of both items on one disk.
abbrev pub two_cycles : List (List ℕ)
two_cycles =
    index_bytes 1 0 (1 ∷ 2 ∷ []) ∷ data_bytes 2 (first_item 1) ∷ data_bytes 1 (second_item 1)
    ∷ index_bytes 2 0 (1 ∷ 2 ∷ []) ∷ data_bytes 2 (first_item 2) ∷ data_bytes 1 (second_item 2) ∷ []

-- A data record whose number leads to another.
abbrev pub no_index : List (List ℕ)
no_index = data_bytes 1 (first_item 1) ∷ data_bytes 1 (first_item 1) ∷ []

-- An index by which item 1 follows at once, where item 0 does.
abbrev pub wrong_entry : List (List ℕ)
wrong_entry = index_bytes 1 0 (1 ∷ 1 ∷ []) ∷ data_bytes 1 (first_item 1) ∷ []
