-- What is at the places of bytes without a fault, in terms of their bucket. Each reader of a view has one lemma of this file.
use Rattle.std.proofs.Common.{◌≡◌, ◌≢◌, ◌≤◌, ◌<◌, ◌⊎◌, inl, inr, ◌+◌, ◌*◌, ℕ, Ok, true, List, length, drop, get_or, slice_index, if◌then◌else◌, refl, sym, ◌∙◌, ap, subst, arith}
use Rattle.std.specs.List.{flat_map, list_all}
use Rattle.std.proofs.lemmas.Bool.{and_parts, ne_eqb}
use Rattle.air_model.specs.Buckets.{Bucket, bucket_at, count_of, entries_at, entries_of, entry_bytes, entry_count, entry_len, entry_told, is_entry, is_shaped, item_of, kind_of, number_at, raw_entries, raw_entry, reading, spelling, value_of}
use Rattle.air_model.proofs.ByteLemmas.{AllBytes}
use Rattle.air_model.proofs.FieldLemmas.{Fields, IsWhole, fields_of}
use Rattle.air_model.proofs.BucketLemmas.{bucket_from_whole, entries_read, fields_back, whole_from_ok}
use Rattle.bucket_codec.proofs.EntryLemmas.{entry_is, length_entries, test_is}

pub version_is : (bytes : List ℕ) → slice_index bytes 2 ≡ (bucket_at bytes).version
unfolding bucket_at
version_is bytes = refl

pub edition_is : (bytes : List ℕ) → number_at 4 2 bytes ≡ (bucket_at bytes).edition
unfolding bucket_at
edition_is bytes = refl

pub cycle_is : (bytes : List ℕ) → number_at 8 4 bytes ≡ (bucket_at bytes).cycle
unfolding bucket_at
cycle_is bytes = refl

pub slot_is : (bytes : List ℕ) → number_at 12 2 bytes ≡ (bucket_at bytes).slot
unfolding bucket_at
slot_is bytes = refl

module _ (bytes : List ℕ) (e : reading bytes ≡ Ok (bucket_at bytes)) where
  whole : IsWhole bytes
  whole = (whole_from_ok bytes (bucket_at bytes) e).0

  pub view_long : 24 ≤ length bytes
  view_long = whole.long

  pub kind_is : slice_index bytes 3 ≡ kind_of (bucket_at bytes).body
  unfolding fields_of
  kind_is = sym (ap (λ (f : Fields). f.kind) (fields_back bytes whole))

  pub kind_small : slice_index bytes 3 ≤ 2
  kind_small = whole.kind

  pub count_is : number_at 6 2 bytes ≡ count_of (bucket_at bytes).body
  unfolding fields_of
  count_is = sym (ap (λ (f : Fields). f.count) (fields_back bytes whole))

  pub item_is : number_at 14 2 bytes ≡ item_of (bucket_at bytes).body
  unfolding fields_of
  item_is = sym (ap (λ (f : Fields). f.item) (fields_back bytes whole))

  pub value_is : number_at 16 8 bytes ≡ value_of (bucket_at bytes).body
  unfolding fields_of
  value_is = sym (ap (λ (f : Fields). f.value) (fields_back bytes whole))

  -- the entries follow the head
  pub rest_is : AllBytes bytes → drop 24 bytes ≡ flat_map (entry_bytes (bucket_at bytes).version (bucket_at bytes).cycle) (entries_of (bucket_at bytes).body)
  unfolding spelling
  rest_is all = ap (drop 24) (bucket_from_whole bytes all whole).1

  -- how many entries there are
  abbrev many : ℕ
  many = entry_count (slice_index bytes 3) (number_at 6 2 bytes)

  long_entries : length (entries_of (bucket_at bytes).body) ≡ many
  long_entries = ap length (entries_read bytes whole) ∙ length_entries (slice_index bytes 2) (number_at 8 4 bytes) many bytes

  -- except in an idle slot there is an entry for each item
  as_many : kind_of (bucket_at bytes).body ≢ 0 → length (entries_of (bucket_at bytes).body) ≡ count_of (bucket_at bytes).body
  unfolding entry_count
  as_many busy =
      let k = kind_is in
      long_entries ∙ ap (λ b. if b then 0 else number_at 6 2 bytes) (ne_eqb (slice_index bytes 3) 0 (λ z. busy (sym k ∙ z))) ∙ count_is

  all_pass : list_all (is_entry (slice_index bytes 2) (number_at 8 4 bytes)) (raw_entries (slice_index bytes 2) many bytes) ≡ true
  unfolding is_shaped
  all_pass = (and_parts _ (list_all (is_entry (slice_index bytes 2) (number_at 8 4 bytes)) (raw_entries (slice_index bytes 2) many bytes)) whole.shaped).1

  -- What a reader of entries knows of the view's bucket, from the version and the cycle that it read: there are as many entries
  -- as items, since the slot isn't idle.
  module _ (now : Bucket) (is : bucket_at bytes ≡ now) (busy : kind_of now.body ≢ 0) (v c n : ℕ) (version : v ≡ now.version) (cycle : c ≡ now.cycle) (all : n ≡ count_of now.body) where
    at_version : v ≡ slice_index bytes 2
    at_version = version ∙ sym (ap (λ (b : Bucket). b.version) is) ∙ sym (version_is bytes)

    at_cycle : c ≡ number_at 8 4 bytes
    at_cycle = cycle ∙ sym (ap (λ (b : Bucket). b.cycle) is) ∙ sym (cycle_is bytes)

    at_many : n ≡ many
    at_many = all ∙ sym (ap (λ (b : Bucket). count_of b.body) is) ∙ sym (as_many (λ idle. busy (sym (ap (λ (b : Bucket). kind_of b.body) is) ∙ idle))) ∙ long_entries

    -- the bytes reach to the end of the entries
    pub view_room : length bytes ≡ 24 + entry_len v * n
    view_room = whole.exact ∙ ap (λ w. 24 + entry_len w * many) (sym at_version) ∙ ap (λ m. 24 + entry_len v * m) (sym at_many)

    pub view_told : list_all (is_entry v c) (raw_entries v n bytes) ≡ true
    view_told = (rw (at_version, at_cycle, at_many) refl) ∙ all_pass

    pub view_entries : entries_at v c n bytes ≡ entries_of now.body
    view_entries = (rw (at_version, at_cycle, at_many) refl) ∙ sym (entries_read bytes whole) ∙ ap (λ (b : Bucket). entries_of b.body) is

    -- the bytes reach to the end of each entry
    pub entry_room : (i : ℕ) → i < n → 24 + entry_len v * i + entry_len v ≤ length bytes
    entry_room i under = by whole.version
      where
        by : (slice_index bytes 2 ≡ 1) ⊎ (slice_index bytes 2 ≡ 2) → 24 + entry_len v * i + entry_len v ≤ length bytes
        by (inl one) = let is = at_version ∙ one in subst (λ w. 24 + entry_len w * i + entry_len w ≤ length bytes) (sym is) (let room = view_room ∙ ap (λ w. 24 + entry_len w * n) is in omega arith)
        by (inr two) = let is = at_version ∙ two in subst (λ w. 24 + entry_len w * i + entry_len w ≤ length bytes) (sym is) (let room = view_room ∙ ap (λ w. 24 + entry_len w * n) is in omega arith)

    pub entry_tested : (i : ℕ) → i < n → is_entry v c (raw_entry v i bytes) ≡ true
    entry_tested i under = test_is v c n i bytes view_told under

    pub view_entry : (i : ℕ) → i < n → entry_told v c (raw_entry v i bytes) ≡ get_or (entries_of now.body) i 0
    view_entry i under = sym (entry_is v c n i bytes under) ∙ ap (λ l. get_or l i 0) view_entries
