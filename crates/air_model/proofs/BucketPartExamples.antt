-- The parts of buckets and of tapes, computed: what a body has, what its entries are worth, and what is read at which bytes.
use Rattle.std.specs.Prelude.{◌≡◌, ℕ, List, [], ◌∷◌, ◌++◌, Some, None, true, false, map, replicate, set, refl}
use Rattle.air_history.specs.Ages.{capped}
use Rattle.air_model.specs.Buckets.{Body, Column, Idle, Vector, body_at, bucket_at, capped_body, capped_entries, count_of, entries_at, entries_of, entry_count, entry_told, is_entry, is_placed, is_shaped, item_of, kind_of, raw_entries}
use Rattle.air_model.specs.Tapes.{ends_inside, read_from, record_bytes}
use Rattle.air_model.proofs.BucketExamples.{first_bytes}

-- An idle body, and bodies of item 1 of three, with its value and its entries.
abbrev idle : Body
idle = Idle 2

abbrev column : List ℕ → Body
column entries = Column 1 20 entries

abbrev vector : List ℕ → Body
vector entries = Vector 1 20 entries

-- The head of a bucket, as zeros, and then these bytes.
abbrev after_head : List ℕ → List ℕ
after_head bytes = replicate 24 0 ++ bytes

pub record BucketParts : Type 0 where
  kinds : map kind_of (idle ∷ column (7 ∷ 8 ∷ 9 ∷ []) ∷ vector (7 ∷ 8 ∷ 9 ∷ []) ∷ []) ≡ 0 ∷ 1 ∷ 2 ∷ []
  counts : map count_of (idle ∷ column (7 ∷ 8 ∷ 9 ∷ []) ∷ vector (7 ∷ 8 ∷ 9 ∷ []) ∷ []) ≡ 2 ∷ 3 ∷ 3 ∷ []
  items : map item_of (idle ∷ column [] ∷ vector [] ∷ []) ≡ 65535 ∷ 1 ∷ 1 ∷ []
  entries : map entries_of (idle ∷ column (7 ∷ 8 ∷ []) ∷ vector (9 ∷ []) ∷ []) ≡ [] ∷ (7 ∷ 8 ∷ []) ∷ (9 ∷ []) ∷ []
  -- in cycle 300 an entry 254 cycles old stays, and an older one becomes 0; in version 1 it stays
  capped_by_age : capped_entries 2 300 (45 ∷ 46 ∷ 0 ∷ 299 ∷ []) ≡ 0 ∷ 46 ∷ 0 ∷ 299 ∷ []
  capped_in_full : capped_entries 1 300 (45 ∷ 46 ∷ []) ≡ 45 ∷ 46 ∷ []
  -- the same in bodies, of which nothing else changes
  capped_bodies : map (capped_body 2 300) (idle ∷ column (45 ∷ 46 ∷ []) ∷ vector (45 ∷ 46 ∷ []) ∷ []) ≡ idle ∷ column (0 ∷ 46 ∷ []) ∷ vector (0 ∷ 46 ∷ []) ∷ []
  full_body : capped_body 1 300 (column (45 ∷ 46 ∷ [])) ≡ column (45 ∷ 46 ∷ [])
  -- an idle bucket has no entries, and another as many as there are items
  entry_counts : entry_count 0 5 ∷ entry_count 1 5 ∷ entry_count 2 5 ∷ [] ≡ 0 ∷ 5 ∷ 5 ∷ []
  -- entries of one byte each, and of four
  raw_ages : raw_entries 2 2 (after_head (7 ∷ 8 ∷ 9 ∷ [])) ≡ 7 ∷ 8 ∷ []
  raw_in_full : raw_entries 1 2 (after_head (0 ∷ 0 ∷ 0 ∷ 7 ∷ 0 ∷ 0 ∷ 1 ∷ 8 ∷ [])) ≡ 7 ∷ 264 ∷ []
  -- in cycle 300 the age 254 stands for cycle 46, the cap for none, and the age 1 for the cycle before
  entries_by_age : entries_at 2 300 3 (after_head (254 ∷ 255 ∷ 1 ∷ [])) ≡ 46 ∷ 0 ∷ 299 ∷ []
  entries_in_full : entries_at 1 300 2 (after_head (0 ∷ 0 ∷ 0 ∷ 7 ∷ 0 ∷ 0 ∷ 1 ∷ 8 ∷ [])) ≡ 7 ∷ 264 ∷ []
  -- the body of item 0's first bucket, and what its bytes would be as those of the other kinds
  bodies : body_at 1 1 1 first_bytes ∷ body_at 1 1 0 first_bytes ∷ body_at 1 1 2 first_bytes ∷ [] ≡ Column 0 10 (0 ∷ 0 ∷ []) ∷ Idle 2 ∷ Vector 0 10 (0 ∷ 0 ∷ []) ∷ []
  -- the bucket is read at its places, with a number in each
  first_bucket : bucket_at first_bytes ≡ record { version = 1; edition = 0; cycle = 1; slot = 0; body = Column 0 10 (0 ∷ 0 ∷ []) }
  later_bucket : bucket_at (set (set (set first_bytes 5 3) 11 9) 13 4) ≡ record { version = 1; edition = 3; cycle = 9; slot = 4; body = Column 0 10 (0 ∷ 0 ∷ []) }
  -- an idle slot has item 65,535 and value 0, and another an item below the number of items
  placed : is_placed 0 65535 0 2 ∷ is_placed 1 1 20 2 ∷ is_placed 2 1 0 2 ∷ [] ≡ true ∷ true ∷ true ∷ []
  misplaced : is_placed 0 0 0 2 ∷ is_placed 0 65535 1 2 ∷ is_placed 1 2 20 2 ∷ [] ≡ false ∷ false ∷ false ∷ []
  -- these bytes are shaped; with 0 or 257 items, in cycle 0, with item 2 of two, or with an entry of its own cycle they aren't
  shaped : is_shaped first_bytes ≡ true
  misshaped : map is_shaped (set first_bytes 7 0 ∷ set (set first_bytes 6 1) 7 1 ∷ set first_bytes 11 0 ∷ set first_bytes 15 2 ∷ set first_bytes 31 1 ∷ []) ≡ false ∷ false ∷ false ∷ false ∷ false ∷ []

bucket_parts : BucketParts
unfolding kind_of count_of item_of entries_of capped capped_entries capped_body entry_count raw_entries entry_told entries_at body_at bucket_at is_placed is_entry is_shaped
bucket_parts = record {
  kinds = refl;
  counts = refl;
  items = refl;
  entries = refl;
  capped_by_age = refl;
  capped_in_full = refl;
  capped_bodies = refl;
  full_body = refl;
  entry_counts = refl;
  raw_ages = refl;
  raw_in_full = refl;
  entries_by_age = refl;
  entries_in_full = refl;
  bodies = refl;
  first_bucket = refl;
  later_bucket = refl;
  placed = refl;
  misplaced = refl;
  shaped = refl;
  misshaped = refl;
}

pub record TapeParts : Type 0 where
  -- a record has its length before it, in four bytes
  of_two_bytes : record_bytes (7 ∷ 8 ∷ []) ≡ 0 ∷ 0 ∷ 0 ∷ 2 ∷ 7 ∷ 8 ∷ []
  of_none : record_bytes [] ≡ 0 ∷ 0 ∷ 0 ∷ 0 ∷ []
  -- from byte 36 on a record of one byte is read, and at byte 41 the next one is cut
  then_cut : read_from 7 36 (0 ∷ 0 ∷ 0 ∷ 1 ∷ 7 ∷ 0 ∷ 0 ∷ []) ≡ record { records = (7 ∷ []) ∷ []; cut = Some 41 }
  -- if nothing is left, nothing is read and nothing is cut
  nothing_left : read_from 7 36 [] ≡ record { records = []; cut = None }

tape_parts : TapeParts
unfolding record_bytes read_from ends_inside
tape_parts = record { of_two_bytes = refl; of_none = refl; then_cut = refl; nothing_left = refl }
