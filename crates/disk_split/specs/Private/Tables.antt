-- For private steps alone. The table of least weights: for the disks from one on, a row for each place from which they take the items,
-- and in it a cell for each number of slots of a minor cycle.
use Rattle.std.specs.Prelude.{◌≡◌, ◌≤◌, ◌<◌, ℕ, ◌+◌, ◌-◌, ◌^◌, Option, Some, None, List, [], drop, length, min, nat_lt, slice_index, slice_index_or, if◌then◌else◌}
use Rattle.disk_split.specs.Rests.{IsSplitRest, IsRestOf, minor_from, weight_from}

-- The cell is the least weight of all sizes with this number of slots, or `None` if no sizes have it.
pub record IsCell (sums chunks : List ℕ) (from len : ℕ) (cell : Option ℕ) : Type 0 where
  pub reached : (weight : ℕ) → cell ≡ Some weight → (sizes : List ℕ) × IsRestOf sums chunks from len weight sizes
  pub least : (sizes : List ℕ) → IsSplitRest sums chunks from sizes → minor_from chunks sizes ≡ len
      → (weight : ℕ) × (cell ≡ Some weight) × (weight ≤ weight_from sums chunks from sizes)

-- The same for the sizes whose first is below a number.
pub record IsCellBelow (sums chunks : List ℕ) (from len top : ℕ) (cell : Option ℕ) : Type 0 where
  pub reached : (weight : ℕ) → cell ≡ Some weight → (sizes : List ℕ) × (slice_index sizes 0 < top) × IsRestOf sums chunks from len weight sizes
  pub least : (sizes : List ℕ) → slice_index sizes 0 < top → IsSplitRest sums chunks from sizes → minor_from chunks sizes ≡ len
      → (weight : ℕ) × (cell ≡ Some weight) × (weight ≤ weight_from sums chunks from sizes)

-- A row has the cells of all numbers of slots below a width. It may end earlier, if none follows.
pub record IsTableRow (sums chunks : List ℕ) (from width : ℕ) (row : List (Option ℕ)) : Type 0 where
  pub narrow : length row ≤ width
  pub cells : (len : ℕ) → len < width → IsCell sums chunks from len (slice_index_or row len None)

-- A table has a row for each place, also for the one after the last item.
pub record IsTable (sums chunks : List ℕ) (width : ℕ) (rows : List (List (Option ℕ))) : Type 0 where
  pub long : length rows ≡ length sums
  pub each : (from : ℕ) → from < length sums → IsTableRow sums chunks from width (slice_index_or rows from [])

-- The tables of the disks from each one on, from that of no disk to that of all.
pub record AreTables (sums chunks : List ℕ) (width : ℕ) (tables : List (List (List (Option ℕ)))) : Type 0 where
  pub long : length tables ≡ length chunks + 1
  pub each : (count : ℕ) → count ≤ length chunks → IsTable sums (drop (length chunks - count) chunks) width (slice_index_or tables count [])

-- A table has the cells of this number of slots.
pub record HasCells (sums chunks : List ℕ) (slots : ℕ) (rows : List (List (Option ℕ))) : Type 0 where
  pub width : ℕ
  pub below : slots < width
  pub table : IsTable sums chunks width rows

-- All the tables have the cells of this number of slots.
pub record HaveCells (sums chunks : List ℕ) (slots : ℕ) (tables : List (List (List (Option ℕ)))) : Type 0 where
  pub width : ℕ
  pub below : slots < width
  pub all : AreTables sums chunks width tables

-- The lesser of a cell and a weight.
abbrev pub lesser_weight : Option ℕ → ℕ → Option ℕ
lesser_weight None weight = Some weight
lesser_weight (Some old) weight = Some (min old weight)

-- The lesser of a cell and the sum of another one and a weight.
abbrev pub lesser_weight_with : Option ℕ → Option ℕ → ℕ → Option ℕ
lesser_weight_with old None more = old
lesser_weight_with old (Some rest) more = lesser_weight old (rest + more)

-- A cell once a disk may also take the next number of items, with `chunk` slots in each of its chunks.
abbrev pub improved : List (Option ℕ) → ℕ → ℕ → ℕ → Option ℕ → Option ℕ
improved next chunk more len old = if nat_lt len chunk then old else lesser_weight_with old (slice_index_or next (len - chunk) None) more

-- What is added to a cell still is a number of 64 bits.
abbrev pub HasCellsUpTo : ℕ → List (Option ℕ) → Type 0
HasCellsUpTo more row = (len weight : ℕ) → slice_index_or row len None ≡ Some weight → weight + more < 2 ^ 64
