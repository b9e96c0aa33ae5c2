-- The bucket: what it says, its one spelling in bytes, and the first fault of bytes that spell none. Sessions use `Bucket`; the
-- codec and the tape use its bytes. The spelling goes from front to back, and the reading goes by places; `reading_law` of
-- `bucket` says that they agree.
use Rattle.std.specs.Prelude.{◌≡◌, ◌<◌, ◌≤◌, ◌⊎◌, ℕ, zero, suc, ◌+◌, ◌-◌, ◌*◌, ◌^◌, Bool, not, ◌&&◌, ◌||◌, ◌==◌, nat_lt, nat_le, if◌then◌else◌, List, [], ◌∷◌, ◌++◌, length, map, drop, slice_index, flat_map, All, IsTrue, Option, Result, Ok, Err}
use Rattle.std.specs.List.{list_all, range_with_len}
use Rattle.std.specs.Result.{result_ok, result_err}
use Rattle.byteorder.specs.Endian.{big_bytes, big_number}
use Rattle.air_base.specs.declared.limits.TheConstants.{AGE_CAP, MOST_FULL_ITEMS, MOST_ITEMS}
use Rattle.air_history.specs.Ages.{capped}
use Rattle.air_model.specs.declared.bucket.BucketFault.{BucketFault}
use Rattle.air_model.specs.declared.bucket.BucketFault.TheVariants.{Short, Magic, Version, Kind, Length, Shape}

-- ---- versions

-- Whether buckets of this version have ages of one byte each, as from version 2 on; in version 1 the entries are in full, of
-- four bytes each.
abbrev pub has_ages : ℕ → Bool
has_ages version = nat_le 2 version

-- The most items of a bucket.
abbrev pub most_count : ℕ → ℕ
most_count version = if has_ages version then MOST_ITEMS else MOST_FULL_ITEMS

-- The number of bytes of an entry.
abbrev pub entry_len : ℕ → ℕ
entry_len version = if has_ages version then 1 else 4

-- ---- buckets

-- What a bucket carries. An idle slot has only the number of items; another slot has an item, its value, and an entry for each
-- item.
pub data Body : Type 0 where
  Idle : ℕ → Body
  Column : ℕ → ℕ → List ℕ → Body
  Vector : ℕ → ℕ → List ℕ → Body

-- A bucket: its version, its place on the air, and what it carries.
pub record Bucket : Type 0 where
  pub version : ℕ
  pub edition : ℕ
  pub cycle : ℕ
  pub slot : ℕ
  pub body : Body

-- The number of the kind: 0 idle, 1 column, 2 vector.
unfoldable pub kind_of : Body → ℕ
kind_of (Idle count) = 0
kind_of (Column item value entries) = 1
kind_of (Vector item value entries) = 2

-- The number of items.
unfoldable pub count_of : Body → ℕ
count_of (Idle count) = count
count_of (Column item value entries) = length entries
count_of (Vector item value entries) = length entries

-- The item; 65,535 in an idle slot.
unfoldable pub item_of : Body → ℕ
item_of (Idle count) = 65535
item_of (Column item value entries) = item
item_of (Vector item value entries) = item

-- The value; 0 in an idle slot.
unfoldable pub value_of : Body → ℕ
value_of (Idle count) = 0
value_of (Column item value entries) = value
value_of (Vector item value entries) = value

-- The entries; none in an idle slot.
unfoldable pub entries_of : Body → List ℕ
entries_of (Idle count) = []
entries_of (Column item value entries) = entries
entries_of (Vector item value entries) = entries

-- ---- entries as ages give them

-- The entries as a bucket of this version and cycle gives them: if it has ages, those that are too old for an age are 0.
unfoldable pub capped_entries : ℕ → ℕ → List ℕ → List ℕ
capped_entries version c entries = if has_ages version then map (λ e. capped e c) entries else entries

-- The body with such entries.
unfoldable pub capped_body : ℕ → ℕ → Body → Body
capped_body version c (Idle count) = Idle count
capped_body version c (Column item value entries) = Column item value (capped_entries version c entries)
capped_body version c (Vector item value entries) = Vector item value (capped_entries version c entries)

-- The bucket with its entries as its version gives them in its cycle.
abbrev pub capped_bucket : Bucket → Bucket
capped_bucket b = record b { body = capped_body b.version b.cycle b.body }

-- ---- the spelling

-- The age of an entry in cycle c; the cap if there is no writer.
abbrev pub age_of : ℕ → ℕ → ℕ
age_of c e = if e == 0 then AGE_CAP else c - e

-- The bytes of an entry in cycle c: its age, or the entry itself.
unfoldable pub entry_bytes : ℕ → ℕ → ℕ → List ℕ
entry_bytes version c e = if has_ages version then age_of c e ∷ [] else big_bytes 4 e

-- The bytes of a bucket: magic, version and kind, then its numbers, each with its high byte first.
unfoldable pub spelling : Bucket → List ℕ
spelling b =
    0x41 ∷ 0x44 ∷ b.version ∷ kind_of b.body ∷ [] ++ big_bytes 2 b.edition ++ big_bytes 2 (count_of b.body) ++ big_bytes 4 b.cycle ++ big_bytes 2 b.slot
    ++ big_bytes 2 (item_of b.body) ++ big_bytes 8 (value_of b.body) ++ flat_map (entry_bytes b.version b.cycle) (entries_of b.body)

-- The numbers of a bucket are in range: the version is 1 or 2, each number fits its width, cycles count from 1, an item is
-- below the number of items, each entry is below the cycle and, if the bucket has ages, an age gives it.
pub record IsInRange (b : Bucket) : Type 0 where
  pub version : (b.version ≡ 1) ⊎ (b.version ≡ 2)
  pub edition : b.edition < 2 ^ 16
  pub some : 1 ≤ count_of b.body
  pub count : count_of b.body ≤ most_count b.version
  pub started : 1 ≤ b.cycle
  pub cycle : b.cycle < 2 ^ 32
  pub slot : b.slot < 2 ^ 16
  pub placed : (kind_of b.body ≡ 0) ⊎ (item_of b.body < count_of b.body)
  pub value : value_of b.body < 2 ^ 64
  pub entries : All (λ e. e < b.cycle) (entries_of b.body)
  pub told : IsTrue (has_ages b.version) → All (λ e. capped e b.cycle ≡ e) (entries_of b.body)

-- ---- the reading

-- The bytes are this bucket's: it is in range, and they are its spelling with nothing after it.
abbrev pub IsBucket : List ℕ → Bucket → Type 0
IsBucket bytes b = IsInRange b × (bytes ≡ spelling b)

-- Each number is a byte.
abbrev pub AreBytes : List ℕ → Type 0
AreBytes bytes = All (λ x. x < 256) bytes

-- The number in the n bytes from a place on.
abbrev pub number_at : ℕ → ℕ → List ℕ → ℕ
number_at at n bytes = big_number n (drop at bytes)

-- The number of entries in bytes of this kind and count.
unfoldable pub entry_count : ℕ → ℕ → ℕ
entry_count kind count = if kind == 0 then 0 else count

-- The number that stands for entry i in bytes of this version: an age, or the entry itself.
abbrev pub raw_entry : ℕ → ℕ → List ℕ → ℕ
raw_entry version i bytes = number_at (24 + entry_len version * i) (entry_len version) bytes

-- The numbers that stand for the first n entries.
unfoldable pub raw_entries : ℕ → ℕ → List ℕ → List ℕ
raw_entries version n bytes = map (λ i. raw_entry version i bytes) (range_with_len 0 n)

-- The entry that this number means in cycle c.
unfoldable pub entry_told : ℕ → ℕ → ℕ → ℕ
entry_told version c a = if has_ages version then (if a == AGE_CAP then 0 else c - a) else a

-- Whether this number stands for an entry in cycle c. An age is the cap, or at least 1 and below the cycle; an entry is below
-- the cycle.
unfoldable pub is_entry : ℕ → ℕ → ℕ → Bool
is_entry version c a = if has_ages version then (a == AGE_CAP) || (nat_le 1 a && nat_lt a c) else nat_lt a c

-- The first n entries, in cycle c.
unfoldable pub entries_at : ℕ → ℕ → ℕ → List ℕ → List ℕ
entries_at version c n bytes = map (entry_told version c) (raw_entries version n bytes)

-- The body that bytes of this version, cycle and kind have.
unfoldable pub body_at : ℕ → ℕ → ℕ → List ℕ → Body
body_at version c zero bytes = Idle (number_at 6 2 bytes)
body_at version c (suc zero) bytes = Column (number_at 14 2 bytes) (number_at 16 8 bytes) (entries_at version c (number_at 6 2 bytes) bytes)
body_at version c (suc (suc more)) bytes = Vector (number_at 14 2 bytes) (number_at 16 8 bytes) (entries_at version c (number_at 6 2 bytes) bytes)

-- The bucket of bytes without a fault.
unfoldable pub bucket_at : List ℕ → Bucket
bucket_at bytes = record {
  version = slice_index bytes 2;
  edition = number_at 4 2 bytes;
  cycle = number_at 8 4 bytes;
  slot = number_at 12 2 bytes;
  body = body_at (slice_index bytes 2) (number_at 8 4 bytes) (slice_index bytes 3) bytes;
}

-- Whether these are the item and the value of an idle slot, or of another slot.
unfoldable pub is_placed : ℕ → ℕ → ℕ → ℕ → Bool
is_placed kind item value count = if kind == 0 then (item == 65535) && (value == 0) else nat_lt item count

-- Whether count, cycle, item, value and entries are in range.
unfoldable pub is_shaped : List ℕ → Bool
is_shaped bytes =
    nat_le 1 (number_at 6 2 bytes) && nat_le (number_at 6 2 bytes) (most_count (slice_index bytes 2)) && nat_le 1 (number_at 8 4 bytes)
    && is_placed (slice_index bytes 3) (number_at 14 2 bytes) (number_at 16 8 bytes) (number_at 6 2 bytes)
    && list_all (is_entry (slice_index bytes 2) (number_at 8 4 bytes)) (raw_entries (slice_index bytes 2) (entry_count (slice_index bytes 3) (number_at 6 2 bytes)) bytes)

-- What the bytes say: the first fault that applies, otherwise their bucket.
unfoldable pub reading : List ℕ → Result Bucket BucketFault
reading bytes =
    if nat_lt (length bytes) 24 then Err (Short (length bytes))
    else if not ((slice_index bytes 0 == 0x41) && (slice_index bytes 1 == 0x44)) then Err Magic
    else if not ((slice_index bytes 2 == 1) || (slice_index bytes 2 == 2)) then Err Version
    else if not (nat_le (slice_index bytes 3) 2) then Err Kind
    else if not (length bytes == 24 + entry_len (slice_index bytes 2) * entry_count (slice_index bytes 3) (number_at 6 2 bytes)) then Err Length
    else if not (is_shaped bytes) then Err Shape
    else Ok (bucket_at bytes)

-- The fault of the bytes, if they have one.
abbrev pub fault_of : List ℕ → Option BucketFault
fault_of bytes = result_err (reading bytes)

-- The bucket of the bytes, if they spell one. It makes a member of a heard list from heard bytes.
abbrev pub bucket_in : List ℕ → Option Bucket
bucket_in bytes = result_ok (reading bytes)
