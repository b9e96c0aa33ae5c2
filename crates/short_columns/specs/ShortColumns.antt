-- The bytes of a short column: a number of two bytes, then that many times an item of two bytes and an age of one byte. The
-- spelling goes from front to back, and the reading goes by places; `spelling_law` and `reading_law` of `laws` say that they
-- agree.
use Rattle.std.specs.Prelude.{ℕ, ◌+◌, ◌*◌, ◌-◌, Bool, ◌&&◌, nat_le, nat_lt, List, [], ◌∷◌, ◌++◌, length, map, drop, slice_index}
use Rattle.std.specs.List.{flat_map, range_with_len}
use Rattle.byteorder.specs.Endian.{big_bytes, big_number}
use Rattle.air_base.specs.declared.limits.TheConstants.{AGE_CAP}
use Rattle.short_columns.specs.Listings.{rise, unlisted}

-- ---- the spelling

-- The bytes of an item and its entry in cycle c: the item, and how many cycles ago it was written.
abbrev pub pair_spelling : ℕ → ℕ × ℕ → List ℕ
pair_spelling c p = big_bytes 2 p.0 ++ (c - p.1) ∷ []

-- The bytes of a short column in cycle c: how many pairs there are, and then each pair.
unfoldable pub short_spelling : ℕ → List (ℕ × ℕ) → List ℕ
short_spelling c pairs = big_bytes 2 (length pairs) ++ flat_map (pair_spelling c) pairs

-- ---- the reading

-- The number in the two bytes from a place on.
abbrev pub two_at : ℕ → List ℕ → ℕ
two_at at bytes = big_number 2 (drop at bytes)

-- Item j and its age in the short column from a place on.
abbrev pub raw_pair : ℕ → List ℕ → ℕ → ℕ × ℕ
raw_pair at bytes j = (two_at (at + 2 + 3 * j) bytes, slice_index bytes (at + 4 + 3 * j))

-- The items and their ages in the short column from a place on.
unfoldable pub raw_pairs : ℕ → List ℕ → List (ℕ × ℕ)
raw_pairs at bytes = map (raw_pair at bytes) (range_with_len 0 (two_at at bytes))

-- Whether a listed entry can have this age in cycle c.
unfoldable pub is_young_age : ℕ → ℕ → Bool
is_young_age c a = nat_le 1 a && nat_lt a AGE_CAP && nat_lt a c

-- Whether the bytes from a place on give pairs for n items in cycle c: the items rise strictly and are below n, and each has an age.
unfoldable pub is_listing : ℕ → ℕ → ℕ → List ℕ → Bool
is_listing c n at bytes = rise (is_young_age c) 0 n (raw_pairs at bytes)

-- The pair that an item and an age mean in cycle c.
abbrev pub pair_told : ℕ → ℕ × ℕ → ℕ × ℕ
pair_told c p = (p.0, c - p.1)

-- The pairs that the bytes from a place on tell in cycle c.
unfoldable pub pairs_at : ℕ → ℕ → List ℕ → List (ℕ × ℕ)
pairs_at c at bytes = map (pair_told c) (raw_pairs at bytes)

-- The entries of n items that the bytes from a place on tell in cycle c.
abbrev pub short_entries : ℕ → ℕ → ℕ → List ℕ → List ℕ
short_entries c n at bytes = unlisted n (pairs_at c at bytes)
