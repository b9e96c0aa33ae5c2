-- The tape: records, each with its length before it, and the byte at which a tape is cut. `IsTape` and `IsCutTape` are the
-- relations, and `tape_read` the function; the laws of `tape` say that they agree.
use Rattle.std.specs.Prelude.{◌≡◌, ℕ, zero, suc, ◌<◌, ◌+◌, ◌^◌, Bool, ◌&&◌, ◌||◌, ◌==◌, nat_lt, if◌then◌else◌, List, [], ◌∷◌, ◌++◌, length, take, drop, flat_map, All, IsTrue, Option, Some, None}
use Rattle.byteorder.specs.Endian.{big_bytes, big_number}

-- A record on the tape: the four bytes of its length, then its bytes.
unfoldable pub record_bytes : List ℕ → List ℕ
record_bytes bytes = big_bytes 4 (length bytes) ++ bytes

-- The tape of these records.
unfoldable pub tape_of : List (List ℕ) → List ℕ
tape_of records = flat_map record_bytes records

-- The bytes are the tape of these records, whose lengths fit in four bytes.
abbrev pub IsTape : List ℕ → List (List ℕ) → Type 0
IsTape bytes records = All (λ r. length r < 2 ^ 32) records × (bytes ≡ tape_of records)

-- Whether the rest of a tape ends inside its first record: inside the length, or before the end of the record's bytes.
unfoldable pub ends_inside : List ℕ → Bool
ends_inside rest = nat_lt 0 (length rest) && (nat_lt (length rest) 4 || nat_lt (length rest) (4 + big_number 4 rest))

-- The tape is cut at a byte: before it are these whole records, and the tape ends inside the record that begins there.
pub record IsCutTape (bytes : List ℕ) (records : List (List ℕ)) (at : ℕ) : Type 0 where
  pub before : IsTape (take at bytes) records
  pub cut : IsTrue (ends_inside (drop at bytes))

-- What a tape holds: its whole records, and the byte at which it is cut, if it is cut.
pub record TapeRead : Type 0 where
  pub records : List (List ℕ)
  pub cut : Option ℕ

-- A record, followed by what is read after it.
abbrev pub with_record : List ℕ → TapeRead → TapeRead
with_record r read = record { records = r ∷ read.records; cut = read.cut }

-- What the rest of a tape from byte `at` on holds, if it has at most n bytes.
unfoldable pub read_from : ℕ → ℕ → List ℕ → TapeRead
read_from zero at rest = record { records = []; cut = None }
read_from (suc n) at rest =
    if length rest == 0 then record { records = []; cut = None }
    else if ends_inside rest then record { records = []; cut = Some at }
    else with_record (take (big_number 4 rest) (drop 4 rest)) (read_from n (at + (4 + big_number 4 rest)) (drop (4 + big_number 4 rest) rest))

-- What the bytes of a tape hold.
abbrev pub tape_read : List ℕ → TapeRead
tape_read bytes = read_from (length bytes) 0 bytes
