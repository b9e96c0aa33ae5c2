-- The two buckets of a deck of two items in its first cycle, and an idle one, byte by byte, and bytes with each fault.
use Rattle.std.specs.Prelude.{◌≡◌, ℕ, List, [], ◌∷◌, ◌++◌, take, set, Some, None, Ok, Err, refl}
use Rattle.air_model.specs.declared.bucket.BucketFault.TheVariants.{Short, Magic, Version, Kind, Length, Shape}
use Rattle.air_model.specs.Buckets.{Body, Bucket, Column, Idle, Vector, body_at, bucket_at, count_of, entries_at, entries_of, entry_count, fault_of, is_placed, is_shaped, item_of, kind_of, reading, spelling, value_of, entry_bytes, entry_told, is_entry, raw_entries}

abbrev first : Bucket
first = record { version = 1; edition = 0; cycle = 1; slot = 0; body = Column 0 10 (0 ∷ 0 ∷ []) }

abbrev second : Bucket
second = record { version = 1; edition = 0; cycle = 1; slot = 1; body = Column 1 20 (0 ∷ 0 ∷ []) }

abbrev pub first_bytes : List ℕ
first_bytes = 0x41 ∷ 0x44 ∷ 1 ∷ 1 ∷ 0 ∷ 0 ∷ 0 ∷ 2 ∷ 0 ∷ 0 ∷ 0 ∷ 1 ∷ 0 ∷ 0 ∷ 0 ∷ 0 ∷ 0 ∷ 0 ∷ 0 ∷ 0 ∷ 0 ∷ 0 ∷ 0 ∷ 0x0a ∷ 0 ∷ 0 ∷ 0 ∷ 0 ∷ 0 ∷ 0 ∷ 0 ∷ 0 ∷ []

abbrev pub second_bytes : List ℕ
second_bytes = 0x41 ∷ 0x44 ∷ 1 ∷ 1 ∷ 0 ∷ 0 ∷ 0 ∷ 2 ∷ 0 ∷ 0 ∷ 0 ∷ 1 ∷ 0 ∷ 1 ∷ 0 ∷ 1 ∷ 0 ∷ 0 ∷ 0 ∷ 0 ∷ 0 ∷ 0 ∷ 0 ∷ 0x14 ∷ 0 ∷ 0 ∷ 0 ∷ 0 ∷ 0 ∷ 0 ∷ 0 ∷ 0 ∷ []

abbrev idle : Bucket
idle = record { version = 1; edition = 0; cycle = 3; slot = 2; body = Idle 2 }

abbrev idle_bytes : List ℕ
idle_bytes = 0x41 ∷ 0x44 ∷ 1 ∷ 0 ∷ 0 ∷ 0 ∷ 0 ∷ 2 ∷ 0 ∷ 0 ∷ 0 ∷ 3 ∷ 0 ∷ 2 ∷ 0xff ∷ 0xff ∷ 0 ∷ 0 ∷ 0 ∷ 0 ∷ 0 ∷ 0 ∷ 0 ∷ 0 ∷ []

each_spelled : (spelling first ≡ first_bytes) × (spelling second ≡ second_bytes) × (spelling idle ≡ idle_bytes)
unfolding spelling entry_bytes kind_of count_of item_of value_of entries_of
each_spelled = (refl, refl, refl)

each_read : (reading first_bytes ≡ Ok first) × (reading second_bytes ≡ Ok second) × (reading idle_bytes ≡ Ok idle)
unfolding reading is_shaped is_entry is_placed entry_count entries_at raw_entries entry_told bucket_at body_at
each_read = (refl, refl, refl)

-- A text cut short, a wrong letter, version 3, kind 3, a byte too many, and an entry of the bucket's own cycle.
each_fault :
    (reading (take 23 first_bytes) ≡ Err (Short 23)) × (reading (set first_bytes 1 0x45) ≡ Err Magic) × (reading (set first_bytes 2 3) ≡ Err Version)
    × (reading (set first_bytes 3 3) ≡ Err Kind) × (reading (first_bytes ++ 0 ∷ []) ≡ Err Length) × (reading (set first_bytes 31 1) ≡ Err Shape)
unfolding reading is_shaped is_entry is_placed entry_count entries_at raw_entries entry_told bucket_at body_at
each_fault = (refl, refl, refl, refl, refl, refl)

-- The number of bytes is tested before a count of 0; an idle slot has no value.
first_fault_counts :
    (reading (set first_bytes 7 0) ≡ Err Length) × (reading (take 24 (set first_bytes 7 0)) ≡ Err Shape) × (reading (set idle_bytes 23 1) ≡ Err Shape)
unfolding reading is_shaped is_entry is_placed entry_count entries_at raw_entries entry_told bucket_at body_at
first_fault_counts = (refl, refl, refl)

-- The fault of bytes with one, and of bytes without.
fault_alone : (fault_of (take 23 first_bytes) ≡ Some (Short 23)) × (fault_of first_bytes ≡ None)
unfolding reading is_shaped is_entry is_placed entry_count entries_at raw_entries entry_told bucket_at body_at
fault_alone = (refl, refl)

-- ---- a bucket whose numbers all differ

-- A bucket of an edition, with a column and with a vector.
abbrev varied_bucket : (ℕ → ℕ → List ℕ → Body) → Bucket
varied_bucket kind = record { version = 1; edition = 3; cycle = 0x01020304; slot = 5; body = kind 2 0x0102030405060708 (7 ∷ 8 ∷ 9 ∷ []) }

-- Its bytes, with the number of its kind.
abbrev varied_bytes : ℕ → List ℕ
varied_bytes kind =
    0x41 ∷ 0x44 ∷ 1 ∷ kind ∷ 0 ∷ 3 ∷ 0 ∷ 3 ∷ 1 ∷ 2 ∷ 3 ∷ 4 ∷ 0 ∷ 5 ∷ 0 ∷ 2 ∷ 1 ∷ 2 ∷ 3 ∷ 4 ∷ 5 ∷ 6 ∷ 7 ∷ 8 ∷ 0 ∷ 0 ∷ 0 ∷ 7 ∷ 0 ∷ 0 ∷ 0 ∷ 8 ∷ 0 ∷ 0 ∷ 0 ∷ 9 ∷ []

-- It is spelled in this order, and read back.
varied_spelled : (spelling (varied_bucket Column) ≡ varied_bytes 1) × (spelling (varied_bucket Vector) ≡ varied_bytes 2)
unfolding spelling entry_bytes kind_of count_of item_of value_of entries_of
varied_spelled = (refl, refl)

varied_read : (reading (varied_bytes 1) ≡ Ok (varied_bucket Column)) × (reading (varied_bytes 2) ≡ Ok (varied_bucket Vector))
unfolding reading is_shaped is_entry is_placed entry_count entries_at raw_entries entry_told bucket_at body_at
varied_read = (refl, refl)

-- ---- the ends of the ranges

-- Item 2 of two, an idle slot in cycle 0, one of another item, and a first entry of the bucket's own cycle are out of range.
out_of_range :
    (reading (set first_bytes 15 2) ≡ Err Shape) × (reading (set idle_bytes 11 0) ≡ Err Shape) × (reading (set idle_bytes 15 0xfe) ≡ Err Shape)
    × (reading (set first_bytes 27 1) ≡ Err Shape)
unfolding reading is_shaped is_entry is_placed entry_count entries_at raw_entries entry_told bucket_at body_at
out_of_range = (refl, refl, refl, refl)

-- 256 items are the most.
most_items : (reading (set (set idle_bytes 6 1) 7 0) ≡ Ok (record idle { body = Idle 256 })) × (reading (set (set idle_bytes 6 1) 7 1) ≡ Err Shape)
unfolding reading is_shaped is_entry is_placed entry_count entries_at raw_entries entry_told bucket_at body_at
most_items = (refl, refl)

-- ---- of two faults the first is reported: letter, version, kind, length, ranges, in this order
first_of_two :
    (reading (set (set first_bytes 0 0x45) 2 3) ≡ Err Magic) × (reading (set (set first_bytes 2 3) 3 3) ≡ Err Version)
    × (reading (set first_bytes 3 3 ++ 0 ∷ []) ≡ Err Kind) × (reading (set first_bytes 31 1 ++ 0 ∷ []) ≡ Err Length)
    × (reading (take 23 (set first_bytes 0 0x45)) ≡ Err (Short 23))
unfolding reading is_shaped is_entry is_placed entry_count entries_at raw_entries entry_told bucket_at body_at
first_of_two = (refl, refl, refl, refl, refl)

-- A count of 0 in a late cycle, and cycle 0 in a late slot, are out of range too: no number takes a byte of its neighbour.
own_bytes : (reading (set (set idle_bytes 7 0) 8 1) ≡ Err Shape) × (reading (set (set idle_bytes 11 0) 12 1) ≡ Err Shape)
unfolding reading is_shaped is_entry is_placed entry_count entries_at raw_entries entry_told bucket_at body_at
own_bytes = (refl, refl)

-- One item is the least.
least_items : (reading (set idle_bytes 7 1) ≡ Ok (record idle { body = Idle 1 })) × (reading (set idle_bytes 7 0) ≡ Err Shape)
unfolding reading is_shaped is_entry is_placed entry_count entries_at raw_entries entry_told bucket_at body_at
least_items = (refl, refl)
