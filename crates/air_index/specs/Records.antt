-- The records of an indexed tape: an index, or a data record, which is a bucket and how many records on the next index is.
use Rattle.std.specs.Prelude.{◌≡◌, ◌≤◌, ◌<◌, ℕ, ◌^◌, Bool, ◌&&◌, ◌==◌, nat_le, if◌then◌else◌, is_some, List, ◌∷◌, ◌++◌, All, drop, slice_index, Option, Some, None}
use Rattle.byteorder.specs.Endian.{big_bytes}
use Rattle.air_model.specs.Buckets.{Bucket, IsInRange, bucket_at, bucket_in, number_at, spelling}
use Rattle.air_model.specs.Tapes.{tape_read}
use Rattle.air_index.specs.Indexes.{IsIndexRecord, index_at, is_index}
use Rattle.air_index.specs.declared.records.Indexed.{Indexed}
use Rattle.air_index.specs.declared.records.Indexed.TheVariants.{Index, Payload}

-- The bytes of a data record: tag 1, how many records on the next index record is, and the bytes of a bucket.
unfoldable pub data_bytes : ℕ → List ℕ → List ℕ
data_bytes wait bucket = 1 ∷ big_bytes 4 wait ++ bucket

-- A data record is in range where the next index lies ahead, its distance has four bytes, and the bucket is in range.
pub record IsDataInRange (w : ℕ) (b : Bucket) : Type 0 where
  pub ahead : 1 ≤ w
  pub wait : w < 2 ^ 32
  pub bucket : IsInRange b

-- The bytes are this record of an indexed tape: its numbers are in range, they are its spelling, and nothing follows.
abbrev pub IsRecord : List ℕ → Indexed → Type 0
IsRecord bytes (Index index) = IsIndexRecord bytes index
IsRecord bytes (Payload wait bucket) = IsDataInRange wait bucket × (bytes ≡ data_bytes wait (spelling bucket))

-- The bytes are no record of an indexed tape.
abbrev pub IsNoRecord : List ℕ → Type 0
IsNoRecord bytes = (r : Indexed) → IsRecord bytes r → ⊥

-- ---- the reading

-- Whether the bytes are a data record.
unfoldable pub is_data : List ℕ → Bool
is_data bytes = (slice_index bytes 0 == 1) && nat_le 1 (number_at 1 4 bytes) && is_some (bucket_in (drop 5 bytes))

-- What the bytes of a data record say, if they are one.
unfoldable pub payload_at : List ℕ → Option Indexed
payload_at bytes = if is_data bytes then Some (Payload (number_at 1 4 bytes) (bucket_at (drop 5 bytes))) else None

-- What the bytes of a record say, if they are one of an indexed tape.
unfoldable pub indexed_at : List ℕ → Option Indexed
indexed_at bytes = if is_index bytes then Some (Index (index_at bytes)) else payload_at bytes

-- ---- a tape of records

-- The bytes are an indexed tape: it is whole, and each of its records is one of an indexed tape.
pub record IsIndexedTape (bytes : List ℕ) : Type 0 where
  pub whole : (tape_read bytes).cut ≡ None
  pub records : All (λ r. (x : Indexed) × (indexed_at r ≡ Some x)) (tape_read bytes).records
