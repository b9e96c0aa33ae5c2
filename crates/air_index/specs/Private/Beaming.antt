-- What the steps of `beam_piece` write, told by the disks of a cycle and of the next one.
use Rattle.std.specs.Prelude.{ℕ, zero, suc, ◌+◌, ◌*◌, List, [], ◌∷◌, ◌++◌, drop, get_or, map}
use Rattle.std.specs.List.{position_or_len, range_with_len}
use Rattle.byteorder.specs.Endian.{big_bytes}
use Rattle.air_model.specs.Disks.{Disk}
use Rattle.air_model.specs.Programs.{minor_len, num_minors}
use Rattle.air_index.specs.OnAir.{marks_item, marks_of}
use Rattle.air_index.specs.Records.{data_bytes}

-- The place of the index of minor cycle m.
abbrev pub index_place : List Disk → ℕ → ℕ
index_place disks m = m * (minor_len (num_minors disks) disks + 1)

-- The entry of item i in the index of minor cycle m, where these disks are aired and then the next ones.
unfoldable pub entry_between : List Disk → List Disk → ℕ → ℕ → ℕ
entry_between disks next m i = position_or_len (marks_item i) (drop (index_place disks m + 1) (marks_of disks) ++ marks_of next) + 1

-- All entries of that index, for n items.
abbrev pub entries_between : List Disk → List Disk → ℕ → ℕ → List ℕ
entries_between disks next n m = map (entry_between disks next m) (range_with_len 0 n)

-- The data records of the last w slots of a minor cycle: the next index is as many records on as slots are left.
unfoldable pub slot_records : ℕ → List (List ℕ) → List (List ℕ)
slot_records zero buckets = []
slot_records (suc w) buckets = data_bytes (suc w) (get_or buckets 0 []) ∷ slot_records w (drop 1 buckets)

-- The bytes of an index record on a tape, before its entries: of its length, and its own head.
unfoldable pub index_head : ℕ → ℕ → ℕ → List ℕ
index_head n cycle minor = big_bytes 4 (13 + 4 * n) ++ (0 ∷ [] ++ big_bytes 4 0 ++ big_bytes 4 cycle ++ big_bytes 2 minor ++ big_bytes 2 n)

-- The bytes of a data record on a tape, before those of its bucket, which are n.
unfoldable pub data_head : ℕ → ℕ → List ℕ
data_head n wait = big_bytes 4 (5 + n) ++ (1 ∷ big_bytes 4 wait)
