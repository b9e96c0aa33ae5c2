-- Buckets of two items, as receivers see them and as bytes, and tapes of them.
use Rattle.std.specs.Prelude.{ℕ, List, [], ◌∷◌, ◌++◌, None}
use Rattle.air_model.specs.Buckets.{Body, Bucket}
use Rattle.air_model.specs.Tapes.{TapeRead}

-- A bucket of edition 0.
abbrev pub bucket : ℕ → ℕ → Body → Bucket
bucket cycle slot body = record { version = 1; edition = 0; cycle = cycle; slot = slot; body = body }

-- The bytes of an item's bucket in a cycle, in the slot of its number: its value, and the column of this entry and 0.
abbrev pub two_entry_bytes : ℕ → ℕ → ℕ → ℕ → List ℕ
two_entry_bytes cycle item value entry = 0x41 ∷ 0x44 ∷ 1 ∷ 1 ∷ 0 ∷ 0 ∷ 0 ∷ 2 ∷ 0 ∷ 0 ∷ 0 ∷ cycle ∷ 0 ∷ item ∷ 0 ∷ item ∷ 0 ∷ 0 ∷ 0 ∷ 0 ∷ 0 ∷ 0 ∷ 0 ∷ value
    ∷ 0 ∷ 0 ∷ 0 ∷ entry ∷ 0 ∷ 0 ∷ 0 ∷ 0 ∷ []

-- The same with the column 0 0.
abbrev pub item_bytes : ℕ → ℕ → ℕ → List ℕ
item_bytes cycle item value = two_entry_bytes cycle item value 0

-- What a tape of the buckets of cycle 1 holds.
abbrev pub both_records : TapeRead
both_records = record { records = item_bytes 1 0 10 ∷ item_bytes 1 1 20 ∷ []; cut = None }

-- What a tape of the second of them alone holds.
abbrev pub second_record : TapeRead
second_record = record { records = item_bytes 1 1 20 ∷ []; cut = None }

-- The tape of both: each bucket with its length before it.
abbrev pub pair_tape : List ℕ
pair_tape = 0 ∷ 0 ∷ 0 ∷ 32 ∷ item_bytes 1 0 10 ++ 0 ∷ 0 ∷ 0 ∷ 32 ∷ item_bytes 1 1 20

-- The tape ends inside the length of its second record, which begins at byte 36.
abbrev pub cut_tape : List ℕ
cut_tape = 0 ∷ 0 ∷ 0 ∷ 32 ∷ item_bytes 1 0 10 ++ 0 ∷ 0 ∷ 0 ∷ []

-- The records of a cycle of both on an indexed tape: its index, and both buckets with how many records on the next index is.
abbrev pub beamed_cycle : ℕ → List ℕ
beamed_cycle cycle = 0 ∷ 0 ∷ 0 ∷ 21 ∷ 0 ∷ 0 ∷ 0 ∷ 0 ∷ 0 ∷ 0 ∷ 0 ∷ 0 ∷ cycle ∷ 0 ∷ 0 ∷ 0 ∷ 2 ∷ 0 ∷ 0 ∷ 0 ∷ 1 ∷ 0 ∷ 0 ∷ 0 ∷ 2
    ∷ 0 ∷ 0 ∷ 0 ∷ 37 ∷ 1 ∷ 0 ∷ 0 ∷ 0 ∷ 2 ∷ item_bytes cycle 0 10 ++ 0 ∷ 0 ∷ 0 ∷ 37 ∷ 1 ∷ 0 ∷ 0 ∷ 0 ∷ 1 ∷ item_bytes cycle 1 20
