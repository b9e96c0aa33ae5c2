-- Indexed tapes of small decks, and what is found on them.
use Rattle.std.specs.Prelude.{◌≡◌, ℕ, ◌++◌, List, [], ◌∷◌, Some, true, false, drop, length, map, take, refl}
use Rattle.air_model.specs.Buckets.{Bucket, Column, Idle, Vector, body_at, bucket_at, count_of, entries_at, entries_of, entry_bytes, entry_count, entry_told, is_entry, is_placed, is_shaped, item_of, kind_of, raw_entries, reading, spelling, value_of}
use Rattle.air_model.specs.Programs.{chunk, chunk_len, least_common_multiple, minor_cycle, num_chunks, num_minors, program}
use Rattle.air_model.specs.Tapes.{ends_inside, read_from, record_bytes, tape_of, tape_read}
use Rattle.air_index.specs.Indexes.{index_at, index_bytes, index_entries, is_index}
use Rattle.air_index.specs.IndexedTapes.{entries_for, indexed_records, records_at_marks, records_from}
use Rattle.air_index.specs.OnAir.{ahead, entry_for, marks_index, marks_item, marks_of, wait_for}
use Rattle.air_index.specs.Records.{data_bytes, indexed_at, is_data, payload_at}
use Rattle.air_index.specs.Seeks.{first_told, has_item, index_told, item_told, sought, sought_first, sought_index, sought_item}
use Rattle.air_index.specs.declared.sought.Sought.TheVariants.{Found, Lost}
use Rattle.air_index.proofs.OnAirExamples.{three_items, two_disks, two_items}

-- The bucket of an item and its value among so many items, and an idle one, in a history without a commit.
abbrev vector : List ℕ → ℕ → ℕ → ℕ → ℕ → Bucket
vector entries cycle slot item value = record { version = 1; edition = 0; cycle = cycle; slot = slot; body = Vector item value entries }

abbrev of_two : ℕ → ℕ → ℕ → ℕ → Bucket
of_two = vector (0 ∷ 0 ∷ [])

abbrev of_three : ℕ → ℕ → ℕ → ℕ → Bucket
of_three = vector (0 ∷ 0 ∷ 0 ∷ [])

abbrev idle : ℕ → ℕ → Bucket
idle cycle slot = record { version = 1; edition = 0; cycle = cycle; slot = slot; body = Idle 2 }

-- The records of two items on one disk, in one cycle and in two.
abbrev once : List (List ℕ)
once = indexed_records two_items 2 1 (map spelling (of_two 1 0 0 10 ∷ of_two 1 1 1 20 ∷ []))

abbrev twice : List (List ℕ)
twice = indexed_records two_items 2 2 (map spelling (of_two 1 0 0 10 ∷ of_two 1 1 1 20 ∷ of_two 2 0 0 10 ∷ of_two 2 1 1 20 ∷ []))

-- How the tape begins, and its data records.
beginnings : (take 25 (tape_of once) ≡ 0 ∷ 0 ∷ 0 ∷ 21 ∷ 0 ∷ 0 ∷ 0 ∷ 0 ∷ 0 ∷ 0 ∷ 0 ∷ 0 ∷ 1 ∷ 0 ∷ 0 ∷ 0 ∷ 2 ∷ 0 ∷ 0 ∷ 0 ∷ 1 ∷ 0 ∷ 0 ∷ 0 ∷ 2 ∷ [])
    × (take 9 (drop 25 (tape_of once)) ≡ 0 ∷ 0 ∷ 0 ∷ 37 ∷ 1 ∷ 0 ∷ 0 ∷ 0 ∷ 2 ∷ []) × (take 9 (drop 66 (tape_of once)) ≡ 0 ∷ 0 ∷ 0 ∷ 37 ∷ 1 ∷ 0 ∷ 0 ∷ 0 ∷ 1 ∷ []) × (length (tape_of once) ≡ 107)
unfolding chunk chunk_len least_common_multiple minor_cycle num_chunks num_minors marks_of ahead marks_index marks_item entry_for wait_for entries_for records_at_marks records_from index_bytes data_bytes entry_bytes kind_of count_of item_of value_of entries_of spelling record_bytes tape_of
beginnings = (refl, refl, refl, refl)

-- The first 40 bytes are cut in the record that begins at byte 25.
cut_tape : (tape_read (take 40 (tape_of once))).cut ≡ Some 25
unfolding chunk chunk_len least_common_multiple minor_cycle num_chunks num_minors marks_of ahead marks_index marks_item entry_for wait_for entries_for records_at_marks records_from index_bytes data_bytes entry_bytes kind_of count_of item_of value_of entries_of spelling record_bytes tape_of read_from ends_inside
cut_tape = refl

-- A tape without a cycle has no record, and nothing is found on it.
no_cycle : (indexed_records two_items 2 0 [] ≡ []) × (sought [] 0 0 ≡ Lost 0)
unfolding records_from sought_first
no_cycle = (refl, refl)

seeks_once : sought once 1 0 ∷ sought once 0 0 ∷ sought once 0 1 ∷ sought once 1 1 ∷ sought once 0 2 ∷ sought once 1 3 ∷ sought once 2 0 ∷ []
    ≡ Found 2 2 1 20 ∷ Found 2 1 1 10 ∷ Found 1 1 1 10 ∷ Lost 1 ∷ Lost 1 ∷ Lost 0 ∷ Lost 1 ∷ []
unfolding chunk chunk_len least_common_multiple minor_cycle num_chunks num_minors marks_of ahead marks_index marks_item entry_for wait_for entries_for records_at_marks records_from index_bytes data_bytes entry_bytes kind_of count_of item_of value_of entries_of spelling first_told has_item index_told item_told sought_first sought_index sought_item indexed_at payload_at is_data is_index index_at index_entries bucket_at reading is_shaped is_placed is_entry raw_entries entry_count entries_at entry_told body_at
seeks_once = refl

seeks_twice : sought twice 1 1 ∷ sought twice 0 2 ∷ sought twice 0 4 ∷ sought twice 0 5 ∷ [] ≡ Found 3 5 2 20 ∷ Found 3 4 2 10 ∷ Found 1 4 2 10 ∷ Lost 1 ∷ []
unfolding chunk chunk_len least_common_multiple minor_cycle num_chunks num_minors marks_of ahead marks_index marks_item entry_for wait_for entries_for records_at_marks records_from index_bytes data_bytes entry_bytes kind_of count_of item_of value_of entries_of spelling first_told has_item index_told item_told sought_first sought_index sought_item indexed_at payload_at is_data is_index index_at index_entries bucket_at reading is_shaped is_placed is_entry raw_entries entry_count entries_at entry_told body_at program
seeks_twice = refl

-- Item 0 is aired twice a cycle, and the last slot is idle.
abbrev disks_twice : List (List ℕ)
disks_twice =
    indexed_records two_disks 2 2
    (map spelling (of_two 1 0 0 10 ∷ of_two 1 1 1 20 ∷ of_two 1 2 0 10 ∷ idle 1 3 ∷ of_two 2 0 0 10 ∷ of_two 2 1 1 20 ∷ of_two 2 2 0 10 ∷ idle 2 3 ∷ []))

length_disks : (length disks_twice ≡ 12) × (length (tape_of disks_twice) ≡ 412)
unfolding chunk chunk_len least_common_multiple minor_cycle num_chunks num_minors marks_of ahead marks_index marks_item entry_for wait_for entries_for records_at_marks records_from index_bytes data_bytes entry_bytes kind_of count_of item_of value_of entries_of spelling record_bytes tape_of program
length_disks = (refl, refl)

seeks_disks : sought disks_twice 0 5 ∷ sought disks_twice 1 5 ∷ sought disks_twice 1 2 ∷ sought disks_twice 1 7 ∷ [] ≡ Found 3 7 2 10 ∷ Found 3 8 2 20 ∷ Found 1 2 1 20 ∷ Lost 2 ∷ []
unfolding chunk chunk_len least_common_multiple minor_cycle num_chunks num_minors marks_of ahead marks_index marks_item entry_for wait_for entries_for records_at_marks records_from index_bytes data_bytes entry_bytes kind_of count_of item_of value_of entries_of spelling first_told has_item index_told item_told sought_first sought_index sought_item indexed_at payload_at is_data is_index index_at index_entries bucket_at reading is_shaped is_placed is_entry raw_entries entry_count entries_at entry_told body_at program
seeks_disks = refl

-- The program changes behind the one cycle of the tape: its last index counts into the next edition.
abbrev changed : List (List ℕ)
changed = indexed_records (three_items (2 ∷ [])) 3 1 (map spelling (of_three 1 0 0 10 ∷ of_three 1 1 1 20 ∷ of_three 1 2 0 10 ∷ of_three 1 3 2 30 ∷ []))

seeks_changed : sought changed 1 1 ∷ sought changed 1 2 ∷ sought changed 2 1 ∷ sought changed 0 5 ∷ [] ≡ Lost 2 ∷ Found 1 2 1 20 ∷ Found 3 5 1 30 ∷ Lost 1 ∷ []
unfolding chunk chunk_len least_common_multiple minor_cycle num_chunks num_minors marks_of ahead marks_index marks_item entry_for wait_for entries_for records_at_marks records_from index_bytes data_bytes entry_bytes kind_of count_of item_of value_of entries_of spelling first_told has_item index_told item_told sought_first sought_index sought_item indexed_at payload_at is_data is_index index_at index_entries bucket_at reading is_shaped is_placed is_entry raw_entries entry_count entries_at entry_told body_at
seeks_changed = refl

-- Odd records: a number 0, one that leads to a data record, an entry that leads to another item, another tag, none, and a bucket alone.
abbrev item_0 : List ℕ
item_0 = spelling (of_two 1 0 0 10)

seeks_odd : sought (data_bytes 0 item_0 ∷ []) 1 0 ∷ sought (data_bytes 1 item_0 ∷ data_bytes 1 item_0 ∷ []) 1 0 ∷ sought (index_bytes 1 0 (1 ∷ 1 ∷ []) ∷ data_bytes 1 item_0 ∷ []) 1 0
    ∷ sought ((2 ∷ []) ∷ []) 0 0 ∷ sought ([] ∷ []) 0 0 ∷ sought (item_0 ∷ []) 0 0 ∷ [] ≡ Lost 1 ∷ Lost 2 ∷ Lost 2 ∷ Lost 1 ∷ Lost 1 ∷ Lost 1 ∷ []
unfolding chunk chunk_len least_common_multiple minor_cycle num_chunks num_minors marks_of ahead marks_index marks_item entry_for wait_for entries_for records_at_marks records_from index_bytes data_bytes entry_bytes kind_of count_of item_of value_of entries_of spelling first_told has_item index_told item_told sought_first sought_index sought_item indexed_at payload_at is_data is_index index_at index_entries bucket_at reading is_shaped is_placed is_entry raw_entries entry_count entries_at entry_told body_at
seeks_odd = refl

-- An index record with an entry 0, with a byte behind its entries, and without an entry is none.
odd_indexes : is_index (index_bytes 1 0 (1 ∷ 2 ∷ [])) ∷ is_index (index_bytes 1 0 (1 ∷ 0 ∷ [])) ∷ is_index (index_bytes 1 0 (1 ∷ []) ++ 0 ∷ []) ∷ is_index (index_bytes 1 0 []) ∷ is_index (index_bytes 0 0 (1 ∷ [])) ∷ []
    ≡ true ∷ false ∷ false ∷ false ∷ false ∷ []
unfolding index_bytes is_index index_entries
odd_indexes = refl

-- Nor is one with another tag, with a number after the tag, with its last entry cut, or with fewer entries than it counts.
cut_indexes : is_index (1 ∷ drop 1 (index_bytes 1 0 (1 ∷ []))) ∷ is_index (0 ∷ 1 ∷ drop 2 (index_bytes 1 0 (1 ∷ []))) ∷ is_index (0 ∷ 0 ∷ 0 ∷ 0 ∷ 1 ∷ drop 5 (index_bytes 1 0 (1 ∷ []))) ∷ is_index (take 16 (index_bytes 1 0 (1 ∷ [])))
    ∷ is_index (take 17 (index_bytes 1 0 (1 ∷ 2 ∷ []))) ∷ is_index (take 12 (index_bytes 1 0 [])) ∷ is_index [] ∷ [] ≡ false ∷ false ∷ false ∷ false ∷ false ∷ false ∷ false ∷ []
unfolding index_bytes is_index index_entries
cut_indexes = refl

-- A cycle may have all of its four bytes.
late_index : is_index (index_bytes 16777216 0 (1 ∷ [])) ≡ true
unfolding index_bytes is_index index_entries
late_index = refl

-- An index is read with its high bytes first.
index_read : index_at (index_bytes 66051 1029 (7 ∷ 66052 ∷ [])) ≡ record { cycle = 66051; minor = 1029; entries = 7 ∷ 66052 ∷ [] }
unfolding index_at index_bytes index_entries
index_read = refl

-- A data record with another tag, a number 0, a bucket that is cut, a byte after its bucket, and without a bucket is none.
odd_data : is_data (data_bytes 1 item_0) ∷ is_data (0 ∷ drop 1 (data_bytes 1 item_0)) ∷ is_data (data_bytes 0 item_0) ∷ is_data (data_bytes 1 (take 31 item_0)) ∷ is_data (data_bytes 1 (item_0 ++ 0 ∷ []))
    ∷ is_data (data_bytes 1 []) ∷ is_data (take 4 (data_bytes 1 [])) ∷ [] ≡ true ∷ false ∷ false ∷ false ∷ false ∷ false ∷ false ∷ []
unfolding data_bytes entry_bytes kind_of count_of item_of value_of entries_of spelling is_data bucket_at reading is_shaped is_placed is_entry raw_entries entry_count entries_at entry_told body_at
odd_data = refl

-- A body has its own item, and not the one that its value or its entries name; an idle one has none.
items_had : has_item 1 (Column 1 20 (0 ∷ 0 ∷ [])) ∷ has_item 20 (Column 1 20 (0 ∷ 0 ∷ [])) ∷ has_item 0 (Column 1 0 (0 ∷ 0 ∷ [])) ∷ has_item 1 (Vector 1 20 (0 ∷ 0 ∷ [])) ∷ has_item 20 (Vector 1 20 (0 ∷ 0 ∷ []))
    ∷ has_item 0 (Vector 1 0 (0 ∷ 0 ∷ [])) ∷ has_item 2 (Idle 2) ∷ [] ≡ true ∷ false ∷ false ∷ true ∷ false ∷ false ∷ false ∷ []
unfolding has_item
items_had = refl
