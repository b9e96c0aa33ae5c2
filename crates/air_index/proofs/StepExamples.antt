-- The single steps of indexed tapes and of seeks on them, computed: entries, records, and what each opened record leads to.
use Rattle.std.specs.Prelude.{◌≡◌, ℕ, List, [], ◌∷◌, Some, None, true, false, map, refl}
use Rattle.air_model.specs.Buckets.{Bucket, Vector, body_at, bucket_at, count_of, entries_at, entries_of, entry_bytes, entry_count, entry_told, is_entry, is_placed, is_shaped, item_of, kind_of, raw_entries, reading, spelling, value_of}
use Rattle.air_model.specs.Programs.{chunk, chunk_len, least_common_multiple, minor_cycle, num_chunks, num_minors}
use Rattle.air_index.specs.Indexes.{Index, index_at, index_bytes, index_entries, is_index}
use Rattle.air_index.specs.IndexedTapes.{entries_for, records_at_marks}
use Rattle.air_index.specs.OnAir.{IsIndex, IsSlot, ahead, entry_for, marks_index, marks_item, marks_of, wait_for}
use Rattle.air_index.specs.Records.{data_bytes, indexed_at, is_data, payload_at}
use Rattle.air_index.specs.Seeks.{first_told, has_item, index_told, item_told, sought_first, sought_index, sought_item}
use Rattle.air_index.specs.declared.records.Indexed.TheVariants as is
use Rattle.air_index.specs.declared.sought.Sought.TheVariants.{Found, Lost}
use Rattle.air_index.proofs.OnAirExamples.{two_items}

-- The buckets of items 0 and 1 of two, in cycle 1.
abbrev zero : Bucket
zero = record { version = 1; edition = 0; cycle = 1; slot = 0; body = Vector 0 10 (0 ∷ 0 ∷ []) }

abbrev one : Bucket
one = record { version = 1; edition = 0; cycle = 1; slot = 1; body = Vector 1 20 (0 ∷ 0 ∷ []) }

-- The index before them: item 0 is one record on, and item 1 two.
abbrev index : Index
index = record { cycle = 1; minor = 0; entries = 1 ∷ 2 ∷ [] }

-- The records of the three.
abbrev index_record : List ℕ
index_record = index_bytes 1 0 (1 ∷ 2 ∷ [])

abbrev zero_record : List ℕ
zero_record = data_bytes 2 (spelling zero)

abbrev one_record : List ℕ
one_record = data_bytes 1 (spelling one)

abbrev three : List (List ℕ)
three = index_record ∷ zero_record ∷ one_record ∷ []

-- ---- the air

pub record OnAir : Type 0 where
  this_item : marks_item 1 (IsSlot (Some 1)) ≡ true
  -- another item, none, and an index of minor cycle 1 aren't item 1
  no_item : map (marks_item 1) (IsSlot (Some 0) ∷ IsSlot None ∷ IsIndex 1 ∷ []) ≡ false ∷ false ∷ false ∷ []
  -- from the index item 1 is two places on; from its own slot it is three, after the index of the next cycle and item 0
  from_the_index : entry_for two_items 1 0 1 ≡ 2
  from_its_slot : entry_for two_items 1 2 1 ≡ 3
  -- an index counts what is ahead, and a data record has the next bucket's bytes and the wait for an index
  two_records : records_at_marks two_items 2 1 0 (IsIndex 0 ∷ IsSlot (Some 0) ∷ []) ((7 ∷ []) ∷ (8 ∷ []) ∷ []) ≡ index_record ∷ data_bytes 2 (7 ∷ []) ∷ []
  -- the first entries of an index, with their high bytes first
  entries : index_entries 2 (index_bytes 1 0 (7 ∷ 66052 ∷ [])) ≡ 7 ∷ 66052 ∷ []
  one_entry : index_entries 1 (index_bytes 1 0 (7 ∷ 66052 ∷ [])) ≡ 7 ∷ []

on_air : OnAir
unfolding marks_item marks_index marks_of ahead entry_for entries_for wait_for records_at_marks index_bytes data_bytes index_entries chunk chunk_len least_common_multiple minor_cycle num_chunks num_minors
on_air = record { this_item = refl; no_item = refl; from_the_index = refl; from_its_slot = refl; two_records = refl; entries = refl; one_entry = refl }

-- ---- seeks for item 1

pub record Seeks : Type 0 where
  -- a data record says its wait and its bucket; an index record is none
  payload : payload_at one_record ≡ Some (is.Payload 1 one)
  no_payload : payload_at index_record ≡ None
  -- the last record, at place 5 and after two that were opened, is found if it is item 1's
  last_found : item_told 1 2 5 (Some (is.Payload 1 one)) ≡ Found 2 5 1 20
  other_last : item_told 1 2 5 (Some (is.Payload 2 zero)) ∷ item_told 1 2 5 (Some (is.Index index)) ∷ item_told 1 2 5 None ∷ [] ≡ Lost 2 ∷ Lost 2 ∷ Lost 2 ∷ []
  -- it is opened if it is there
  led_to_item : sought_item 1 1 5 (one_record ∷ []) ≡ Found 2 5 1 20
  led_to_nothing : sought_item 1 1 5 [] ≡ Lost 1
  -- an index at place 5 leads two records on; without an entry for the item, and at any other record, it is lost
  index_leads : index_told 1 1 5 three (Some (is.Index index)) ≡ Found 2 7 1 20
  no_entry : index_told 2 1 5 three (Some (is.Index index)) ≡ Lost 1
  no_index : index_told 1 1 5 three (Some (is.Payload 1 one)) ∷ index_told 1 1 5 three None ∷ [] ≡ Lost 1 ∷ Lost 1 ∷ []
  -- the index to which a first record led is the second record that is opened
  led_to_index : sought_index 1 5 three ≡ Found 3 7 1 20
  led_behind_the_end : sought_index 1 5 [] ≡ Lost 1
  -- a first record of the item ends the search; another leads to an index one record on; an index leads to the item; all else is lost
  first_found : first_told 1 5 (one_record ∷ []) (Some (is.Payload 1 one)) ≡ Found 1 5 1 20
  first_leads : first_told 1 5 (zero_record ∷ three) (Some (is.Payload 1 zero)) ≡ Found 3 8 1 20
  first_is_index : first_told 1 5 three (Some (is.Index index)) ≡ Found 2 7 1 20
  first_is_none : first_told 1 5 ((7 ∷ []) ∷ []) None ≡ Lost 1
  -- the same from bytes
  first_opened : sought_first 1 5 three ≡ Found 2 7 1 20
  nothing_opened : sought_first 1 5 [] ≡ Lost 0

seeks : Seeks
unfolding payload_at is_data index_bytes data_bytes bucket_at reading is_shaped is_placed is_entry raw_entries entry_count entries_at entry_told body_at entry_bytes kind_of count_of item_of value_of entries_of spelling first_told has_item index_told item_told sought_first sought_index sought_item indexed_at is_index index_at index_entries
seeks = record {
  payload = refl;
  no_payload = refl;
  last_found = refl;
  other_last = refl;
  led_to_item = refl;
  led_to_nothing = refl;
  index_leads = refl;
  no_entry = refl;
  no_index = refl;
  led_to_index = refl;
  led_behind_the_end = refl;
  first_found = refl;
  first_leads = refl;
  first_is_index = refl;
  first_is_none = refl;
  first_opened = refl;
  nothing_opened = refl;
}
