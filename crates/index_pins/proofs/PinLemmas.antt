-- What the pins' values compute to.
use Rattle.std.proofs.Common.{◌≡◌, ◌∙◌, ◌++◌, ℕ, List, [], ◌∷◌, None, Result, Ok, Err, ap, refl}
use Rattle.std.specs.Prelude.{IfOk}
use Rattle.air_model.specs.Buckets.{body_at, bucket_at, count_of, entries_at, entries_of, entry_bytes, entry_count, entry_told, is_entry, is_placed, is_shaped, item_of, kind_of, raw_entries, reading, spelling, value_of}
use Rattle.bucket_codec.specs.declared.tape.TapeFault.{TapeFault}
use Rattle.air_index.specs.Indexes.{index_at, index_bytes, index_entries, is_index}
use Rattle.air_index.specs.Records.{data_bytes, indexed_at, is_data, payload_at}
use Rattle.air_index.specs.Seeks.{first_told, has_item, index_told, item_told, sought, sought_first, sought_index, sought_item}
use Rattle.air_index.specs.declared.sought.Sought.{Sought}
use Rattle.air_index.specs.declared.sought.Sought.TheVariants.{Found, Lost}
use Rattle.index_pins.specs.ShortTapes.{first_item, no_index, two_cycles, wrong_entry}

-- What is sought on known records.
pub answer_is : (r : Result Sought TapeFault) (records known : List (List ℕ)) (i p : ℕ) (s : Sought) → IfOk r (λ a. a ≡ sought records i p) → records ≡ known → sought known i p ≡ s → IfOk r (λ a. a ≡ s)
answer_is (Ok a) records known i p s h same is = h ∙ ap (λ l. sought l i p) same ∙ is
answer_is (Err e) records known i p s h same is = h

pub on_two_cycles : (sought two_cycles 1 1 ≡ Found 3 5 2 20) × (sought two_cycles 0 4 ≡ Found 1 4 2 10) × (sought two_cycles 0 5 ≡ Lost 1)
unfolding index_bytes data_bytes entry_bytes kind_of count_of item_of value_of entries_of spelling first_told has_item index_told item_told sought_first sought_index sought_item indexed_at payload_at is_data is_index index_at index_entries bucket_at reading is_shaped is_placed is_entry raw_entries entry_count entries_at entry_told body_at
on_two_cycles = (refl, refl, refl)

pub on_odd_tapes : (sought no_index 1 0 ≡ Lost 2) × (sought wrong_entry 1 0 ≡ Lost 2)
unfolding index_bytes data_bytes entry_bytes kind_of count_of item_of value_of entries_of spelling first_told has_item index_told item_told sought_first sought_index sought_item indexed_at payload_at is_data is_index index_at index_entries bucket_at reading is_shaped is_placed is_entry raw_entries entry_count entries_at entry_told body_at
on_odd_tapes = (refl, refl)

pub no_records : (indexed_at (index_bytes 1 0 (1 ∷ 0 ∷ [])) ≡ None) × (indexed_at (index_bytes 1 0 (1 ∷ 2 ∷ []) ++ 0 ∷ []) ≡ None) × (indexed_at (data_bytes 0 (first_item 1)) ≡ None) × (indexed_at (first_item 1) ≡ None)
unfolding index_bytes data_bytes entry_bytes kind_of count_of item_of value_of entries_of spelling first_told has_item index_told item_told sought_first sought_index sought_item indexed_at payload_at is_data is_index index_at index_entries bucket_at reading is_shaped is_placed is_entry raw_entries entry_count entries_at entry_told body_at
no_records = (refl, refl, refl, refl)
