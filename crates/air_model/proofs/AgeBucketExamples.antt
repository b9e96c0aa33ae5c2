-- Buckets of version 2, whose entries are ages of one byte: their bytes, what is read at each end, and what a history airs in them.
use Rattle.std.proofs.Common.{◌≡◌, ◌⊎◌, ℕ, ◌<◌, ◌≤◌, true, false, List, [], ◌∷◌, ◌++◌, drop, Ok, Err, refl, inl, inr, arith}
use Rattle.std.specs.Prelude.{map, replicate, set}
use Rattle.std.proofs.lemmas.List.Elements.{All-from_recursion}
use Rattle.air_history.specs.Ages.{capped}
use Rattle.air_history.specs.Places.{last_place, greatest}
use Rattle.air_history.specs.Histories.{cycle_at, front, starts, writer, writer_before, writes, reads, is_start}
use Rattle.air_history.specs.Descents.{descends, descends_in}
use Rattle.air_history.specs.Columns.{column_entry, vector_entry}
use Rattle.air_history.specs.Tables.{value_on_base, write_of, value_after, table}
use Rattle.air_model.specs.declared.bucket.BucketFault.TheVariants.{Version, Length, Shape}
use Rattle.air_model.specs.Buckets.{Body, Bucket, Column, Idle, IsInRange, Vector, age_of, body_at, bucket_at, capped_body, capped_bucket, capped_entries, count_of, entries_at, entries_of, entry_bytes, entry_count, entry_len, entry_told, has_ages, is_entry, is_placed, is_shaped, item_of, kind_of, most_count, raw_entries, raw_entry, reading, spelling, value_of}
use Rattle.air_model.specs.Disks.{order, order_with, cut}
use Rattle.air_model.specs.Programs.{program, least_common_multiple, num_minors, num_chunks, chunk_len, chunk, minor_cycle}
use Rattle.air_model.specs.Decks.{Deck, event_of, script_history, values_in}
use Rattle.air_model.specs.Aired.{IsAiredBucket, air_of, body_of, bucket_of, buckets_of}
use Rattle.air_model.proofs.SessionExamples.{aired_in, deck, item, pair, s, set_to, u, update}

-- ---- versions

pub record Versions : Type 0 where
  in_full : has_ages 1 ≡ false
  by_age : has_ages 2 ≡ true
  -- each version after 2 has ages too
  later : has_ages 3 ≡ true
  most_in_full : most_count 1 ≡ 256
  most_by_age : most_count 2 ≡ 1024
  four_bytes : entry_len 1 ≡ 4
  one_byte : entry_len 2 ≡ 1

versions : Versions
versions = record { in_full = refl; by_age = refl; later = refl; most_in_full = refl; most_by_age = refl; four_bytes = refl; one_byte = refl }

-- ---- one entry

pub record Entries : Type 0 where
  no_writer : age_of 300 0 ≡ 255
  youngest : age_of 300 299 ≡ 1
  oldest : age_of 300 46 ≡ 254
  as_age : entry_bytes 2 300 46 ≡ 254 ∷ []
  as_entry : entry_bytes 1 300 46 ≡ 0 ∷ 0 ∷ 0 ∷ 46 ∷ []
  -- the numbers follow the 24 bytes of the head, each with the version's width
  second_byte : raw_entry 2 1 (replicate 24 0 ++ 7 ∷ 8 ∷ 9 ∷ []) ≡ 8
  second_number : raw_entry 1 1 (replicate 24 0 ++ 0 ∷ 0 ∷ 0 ∷ 7 ∷ 0 ∷ 0 ∷ 1 ∷ 8 ∷ []) ≡ 264
  -- an age gives the entry of that many cycles ago, and the cap gives 0
  told : entry_told 2 300 254 ≡ 46
  told_none : entry_told 2 300 255 ≡ 0
  told_itself : entry_told 1 300 254 ≡ 254
  -- an age is at least 1 and below the cycle, or it is the cap
  no_age : is_entry 2 3 0 ≡ false
  own_cycle : is_entry 2 3 3 ≡ false
  before_it : is_entry 2 3 2 ≡ true
  cap_in_any_cycle : is_entry 2 1 255 ≡ true
  first_cycle : is_entry 2 1 1 ≡ false
  -- an entry in full is below the cycle
  in_full : is_entry 1 3 0 ≡ true
  full_below : is_entry 1 3 2 ≡ true
  full_own_cycle : is_entry 1 3 3 ≡ false

entries : Entries
unfolding entry_bytes entry_told is_entry
entries = record {
  no_writer = refl;
  youngest = refl;
  oldest = refl;
  as_age = refl;
  as_entry = refl;
  second_byte = refl;
  second_number = refl;
  told = refl;
  told_none = refl;
  told_itself = refl;
  no_age = refl;
  own_cycle = refl;
  before_it = refl;
  cap_in_any_cycle = refl;
  first_cycle = refl;
  in_full = refl;
  full_below = refl;
  full_own_cycle = refl;
}

-- ---- whole buckets

-- A bucket whose numbers all differ, of a kind and with these entries.
abbrev varied : (ℕ → ℕ → List ℕ → Body) → List ℕ → Bucket
varied kind entries = record { version = 2; edition = 3; cycle = 300; slot = 5; body = kind 2 0x0102030405060708 entries }

-- The bucket's bytes, with the number of its kind and these ages of three items.
abbrev varied_bytes : ℕ → List ℕ → List ℕ
varied_bytes kind ages = 0x41 ∷ 0x44 ∷ 2 ∷ kind ∷ 0 ∷ 3 ∷ 0 ∷ 3 ∷ 0 ∷ 0 ∷ 1 ∷ 44 ∷ 0 ∷ 5 ∷ 0 ∷ 2 ∷ 1 ∷ 2 ∷ 3 ∷ 4 ∷ 5 ∷ 6 ∷ 7 ∷ 8 ∷ ages

-- An idle bucket of this version and number of items.
abbrev idle : ℕ → ℕ → Bucket
idle version count = record { version = version; edition = 0; cycle = 3; slot = 2; body = Idle count }

abbrev idle_bytes : ℕ → ℕ → ℕ → List ℕ
idle_bytes version high low = 0x41 ∷ 0x44 ∷ version ∷ 0 ∷ 0 ∷ 0 ∷ high ∷ low ∷ 0 ∷ 0 ∷ 0 ∷ 3 ∷ 0 ∷ 2 ∷ 0xff ∷ 0xff ∷ replicate 8 0

-- The bytes of a bucket of two items in cycle 3, with these ages.
abbrev two_ages : List ℕ → List ℕ
two_ages ages = 0x41 ∷ 0x44 ∷ 2 ∷ 1 ∷ 0 ∷ 0 ∷ 0 ∷ 2 ∷ 0 ∷ 0 ∷ 0 ∷ 3 ∷ 0 ∷ 0 ∷ 0 ∷ 0 ∷ 0 ∷ 0 ∷ 0 ∷ 0 ∷ 0 ∷ 0 ∷ 0 ∷ 10 ∷ ages

pub record Bytes : Type 0 where
  -- a column and a vector, spelled and read
  column_spelled : spelling (varied Column (299 ∷ 46 ∷ 0 ∷ [])) ≡ varied_bytes 1 (1 ∷ 254 ∷ 255 ∷ [])
  vector_spelled : spelling (varied Vector (299 ∷ 46 ∷ 0 ∷ [])) ≡ varied_bytes 2 (1 ∷ 254 ∷ 255 ∷ [])
  column_read : reading (varied_bytes 1 (1 ∷ 254 ∷ 255 ∷ [])) ≡ Ok (varied Column (299 ∷ 46 ∷ 0 ∷ []))
  vector_read : reading (varied_bytes 2 (1 ∷ 254 ∷ 255 ∷ [])) ≡ Ok (varied Vector (299 ∷ 46 ∷ 0 ∷ []))
  idle_spelled : spelling (idle 2 2) ≡ idle_bytes 2 0 2
  idle_read : reading (idle_bytes 2 0 2) ≡ Ok (idle 2 2)
  -- in cycle 3 an age is 1, 2 or the cap
  ages_read : reading (two_ages (2 ∷ 255 ∷ [])) ≡ Ok (record { version = 2; edition = 0; cycle = 3; slot = 0; body = Column 0 10 (1 ∷ 0 ∷ []) })
  age_of_none : reading (two_ages (0 ∷ 255 ∷ [])) ≡ Err Shape
  age_of_the_cycle : reading (two_ages (255 ∷ 3 ∷ [])) ≡ Err Shape
  age_past_the_cycle : reading (two_ages (254 ∷ 255 ∷ [])) ≡ Err Shape
  -- the most items are 1,024 in version 2, and 256 in version 1
  most_items : reading (idle_bytes 2 4 0) ≡ Ok (idle 2 1024)
  too_many : reading (idle_bytes 2 4 1) ≡ Err Shape
  no_items : reading (idle_bytes 2 0 0) ≡ Err Shape
  most_in_full : reading (idle_bytes 1 1 0) ≡ Ok (idle 1 256)
  too_many_in_full : reading (idle_bytes 1 1 1) ≡ Err Shape
  -- an entry has one byte in version 2 and four in version 1
  four_bytes_each : reading (two_ages (0 ∷ 0 ∷ 0 ∷ 1 ∷ 0 ∷ 0 ∷ 0 ∷ 1 ∷ [])) ≡ Err Length
  one_byte_more : reading (two_ages (2 ∷ 255 ∷ 255 ∷ [])) ≡ Err Length
  one_byte_less : reading (two_ages (2 ∷ [])) ≡ Err Length
  one_byte_each : reading (set (two_ages (2 ∷ 255 ∷ [])) 2 1) ≡ Err Length
  -- neither 0 nor 3 is a version
  third_version : reading (set (two_ages (2 ∷ 255 ∷ [])) 2 3) ≡ Err Version
  no_version : reading (set (two_ages (2 ∷ 255 ∷ [])) 2 0) ≡ Err Version

bytes : Bytes
unfolding spelling kind_of count_of item_of value_of entries_of entry_bytes reading is_shaped is_placed is_entry entry_count entry_told entries_at raw_entries bucket_at body_at
bytes = record {
  column_spelled = refl;
  vector_spelled = refl;
  column_read = refl;
  vector_read = refl;
  idle_spelled = refl;
  idle_read = refl;
  ages_read = refl;
  age_of_none = refl;
  age_of_the_cycle = refl;
  age_past_the_cycle = refl;
  most_items = refl;
  too_many = refl;
  no_items = refl;
  most_in_full = refl;
  too_many_in_full = refl;
  four_bytes_each = refl;
  one_byte_more = refl;
  one_byte_less = refl;
  one_byte_each = refl;
  third_version = refl;
  no_version = refl;
}

-- ---- which are in range

in_range : IsInRange (varied Column (299 ∷ 46 ∷ 0 ∷ []))
unfolding count_of kind_of item_of value_of entries_of capped
in_range = record {
  version = inr refl;
  edition = omega arith;
  some = omega arith;
  count = omega arith;
  started = omega arith;
  cycle = omega arith;
  slot = omega arith;
  placed = inr (omega arith);
  value = omega arith;
  entries = All-from_recursion (λ e. e < 300) (299 ∷ 46 ∷ 0 ∷ []) (omega arith, (omega arith, (omega arith, tt)));
  told = λ _. All-from_recursion (λ e. capped e 300 ≡ e) (299 ∷ 46 ∷ 0 ∷ []) (refl, (refl, (refl, tt)));
}

pub record NotInRange : Type 0 where
  -- no age gives the entry 45 in cycle 300; neither 0 nor 3 is a version
  too_old : IsInRange (varied Column (299 ∷ 46 ∷ 45 ∷ [])) → ⊥
  own_cycle : IsInRange (varied Column (299 ∷ 300 ∷ 0 ∷ [])) → ⊥
  third_version : IsInRange (record (varied Column (299 ∷ 46 ∷ 0 ∷ [])) { version = 3 }) → ⊥
  no_version : IsInRange (record (varied Column (299 ∷ 46 ∷ 0 ∷ [])) { version = 0 }) → ⊥
  too_many : IsInRange (idle 2 1025) → ⊥
  too_many_in_full : IsInRange (idle 1 257) → ⊥

not_in_range : NotInRange
unfolding count_of entries_of capped
not_in_range = record {
  too_old = λ h. let none : 0 ≡ 45 = h.told refl 2 0 (omega arith) in omega arith;
  own_cycle = λ h. let low : 300 < 300 = h.entries 1 0 (omega arith) in omega arith;
  third_version = λ h. neither 3 (λ e. omega (arith, e)) (λ e. omega (arith, e)) h.version;
  no_version = λ h. neither 0 (λ e. omega (arith, e)) (λ e. omega (arith, e)) h.version;
  too_many = λ h. let most : 1025 ≤ 1024 = h.count in omega arith;
  too_many_in_full = λ h. let most : 257 ≤ 256 = h.count in omega arith;
}
  where
    neither : (v : ℕ) → (v ≡ 1 → ⊥) → (v ≡ 2 → ⊥) → (v ≡ 1) ⊎ (v ≡ 2) → ⊥
    neither v one two (inl e) = one e
    neither v one two (inr e) = two e

-- ---- what a history airs

-- In a bucket with ages, an entry that is 255 cycles old or more is 0; in one without ages it stays.
pub record Capped : Type 0 where
  as_told : capped_bucket (varied Column (299 ∷ 46 ∷ 45 ∷ [])) ≡ varied Column (299 ∷ 46 ∷ 0 ∷ [])
  in_full : capped_bucket (record (varied Vector (299 ∷ 46 ∷ 45 ∷ [])) { version = 1 }) ≡ record (varied Vector (299 ∷ 46 ∷ 45 ∷ [])) { version = 1 }
  vector_as_told : capped_bucket (varied Vector (299 ∷ 46 ∷ 45 ∷ [])) ≡ varied Vector (299 ∷ 46 ∷ 0 ∷ [])
  idle_stays : capped_bucket (idle 2 3) ≡ idle 2 3

capped_buckets : Capped
unfolding capped_body capped_entries capped
capped_buckets = record { as_told = refl; in_full = refl; vector_as_told = refl; idle_stays = refl }

-- One item, which is written in cycle 1; version 2.
abbrev old_write : Deck
old_write = aired_in 2 (deck (item 10 1 ∷ []) (update [] (set_to 0 11 ∷ []) ∷ []) (0, 0, 1) [] (s ∷ u ∷ replicate 256 s))

-- The bytes of its entry in a cycle, as a bucket of this version gives it.
abbrev entry_in : ℕ → ℕ → List ℕ
entry_in version c = drop 24 (spelling (bucket_of (values_in old_write) (air_of old_write) (script_history old_write) version c 0))

pub record Aged : Type 0 where
  first_cycle : entry_in 2 1 ≡ 255 ∷ []
  second_cycle : entry_in 2 2 ≡ 1 ∷ []
  last_told : entry_in 2 255 ≡ 254 ∷ []
  too_old : entry_in 2 256 ≡ 255 ∷ []
  older : entry_in 2 257 ≡ 255 ∷ []
  in_full : entry_in 1 257 ≡ 0 ∷ 0 ∷ 0 ∷ 1 ∷ []
  -- the air's own buckets are of its version, and one of version 1 is the history's too
  own_version : map (λ b. b.version) (buckets_of (10 ∷ 20 ∷ []) (air_of (aired_in 2 pair)) (script_history pair)) ≡ 2 ∷ 2 ∷ []
  older_aired : IsAiredBucket (10 ∷ 20 ∷ []) (air_of (aired_in 2 pair)) (script_history pair) (record { version = 1; edition = 0; cycle = 1; slot = 0; body = Column 0 10 (0 ∷ 0 ∷ []) })

aged : Aged
unfolding last_place greatest cycle_at front starts writer writer_before writes reads is_start descends descends_in column_entry vector_entry value_on_base write_of value_after table order order_with cut program least_common_multiple num_minors num_chunks chunk_len chunk minor_cycle event_of script_history body_of bucket_of buckets_of capped_body capped_entries capped spelling kind_of count_of item_of value_of entries_of entry_bytes
aged = record { first_cycle = refl; second_cycle = refl; last_told = refl; too_old = refl; older = refl; in_full = refl; own_version = refl; older_aired = record { from_one = omega arith; started = omega arith; same = refl } }
