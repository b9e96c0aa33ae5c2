-- The index record: what it says, its one spelling in bytes, and which bytes are one.
-- The spelling goes from front to back, the reading by places; that the two meet is a clause of `indexed`.
use Rattle.std.specs.Prelude.{◌≡◌, ◌≤◌, ◌<◌, ℕ, ◌+◌, ◌*◌, ◌^◌, Bool, ◌&&◌, ◌==◌, nat_le, List, [], ◌∷◌, ◌++◌, All, length, map, slice_index}
use Rattle.std.specs.List.{flat_map, list_all, range_with_len}
use Rattle.byteorder.specs.Endian.{big_bytes}
use Rattle.air_base.specs.declared.limits.TheConstants.{MOST_ITEMS}
use Rattle.air_model.specs.Buckets.{number_at}

-- An index has its cycle, its minor cycle, and for each item how many records on the item's next data record is.
pub record Index : Type 0 where
  pub cycle : ℕ
  pub minor : ℕ
  pub entries : List ℕ

-- The bytes of an index record: tag 0 and four bytes 0, then its numbers, each with its high byte first.
unfoldable pub index_bytes : ℕ → ℕ → List ℕ → List ℕ
index_bytes cycle minor entries =
    0 ∷ [] ++ big_bytes 4 0 ++ big_bytes 4 cycle ++ big_bytes 2 minor ++ big_bytes 2 (length entries) ++ flat_map (big_bytes 4) entries

-- The numbers of an index are in range: each is below its width, cycles and entries count from 1, and there are entries, as many as items may be.
pub record IsIndexInRange (index : Index) : Type 0 where
  pub started : 1 ≤ index.cycle
  pub cycle : index.cycle < 2 ^ 32
  pub minor : index.minor < 2 ^ 16
  pub some : 1 ≤ length index.entries
  pub count : length index.entries ≤ MOST_ITEMS
  pub ahead : All (λ e. 1 ≤ e) index.entries
  pub entries : All (λ e. e < 2 ^ 32) index.entries

-- The bytes are this index: it is in range, they are its spelling, and nothing follows.
abbrev pub IsIndexRecord : List ℕ → Index → Type 0
IsIndexRecord bytes index = IsIndexInRange index × (bytes ≡ index_bytes index.cycle index.minor index.entries)

-- ---- the reading

-- The first n entries.
unfoldable pub index_entries : ℕ → List ℕ → List ℕ
index_entries n bytes = map (λ i. number_at (13 + 4 * i) 4 bytes) (range_with_len 0 n)

-- The index of bytes that are one.
unfoldable pub index_at : List ℕ → Index
index_at bytes = record {
  cycle = number_at 5 4 bytes;
  minor = number_at 9 2 bytes;
  entries = index_entries (number_at 11 2 bytes) bytes;
}

-- Whether the bytes are an index record.
unfoldable pub is_index : List ℕ → Bool
is_index bytes =
    (length bytes == 13 + 4 * number_at 11 2 bytes) && (slice_index bytes 0 == 0) && (number_at 1 4 bytes == 0)
    && nat_le 1 (number_at 5 4 bytes) && nat_le 1 (number_at 11 2 bytes) && nat_le (number_at 11 2 bytes) MOST_ITEMS
    && list_all (nat_le 1) (index_entries (number_at 11 2 bytes) bytes)
