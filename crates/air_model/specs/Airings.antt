-- When an item is aired: how often, how far apart, and how long to wait for it from a slot. The laws of these definitions are
-- `airings_law`, `gap_law`, `times_gap_law`, `next_wake_law` and `disk_law` of `program`.
use Rattle.std.specs.Prelude.{◌≡◌, ◌≢◌, ◌<◌, ℕ, ◌+◌, ◌*◌, ◌%◌, ◌++◌, ◌==◌, Bool, false, List, Option, Some, None, count_by, drop, length, slice_get, slice_index_or}
use Rattle.std.specs.List.{list_any, position_or_len}
use Rattle.std.specs.Option.{option_map_or}
use Rattle.air_model.specs.Disks.{Disk}
use Rattle.air_model.specs.Programs.{minor_len, num_chunks, num_minors}

-- The item that a slot carries; None if the slot is idle.
abbrev pub slot_item : List (Option ℕ) → ℕ → Option ℕ
slot_item slots s = slice_index_or slots s None

-- Whether the slot carries this item.
abbrev pub carries : ℕ → Option ℕ → Bool
carries i None = false
carries i (Some j) = j == i

-- The number of slots that carry an item.
abbrev pub airings : List (Option ℕ) → ℕ → ℕ
airings slots i = count_by (carries i) slots

-- The wait from a slot: the number of slots before the item's next one, in this cycle or the one after it.
unfoldable pub next_wake : List (Option ℕ) → ℕ → ℕ → ℕ
next_wake slots s i = position_or_len (carries i) (drop s slots ++ slots)

-- The item is aired k slots after slot s, around the cycle, and not before.
pub record IsNextWake (slots : List (Option ℕ)) (s i k : ℕ) : Type 0 where
  pub aired : slot_item slots ((s + k) % length slots) ≡ Some i
  pub first : (j : ℕ) → j < k → slot_item slots ((s + j) % length slots) ≢ Some i

-- From each slot with the item, the next such slot is this gap later, around the cycle.
pub record ComesEvery (slots : List (Option ℕ)) (i gap : ℕ) : Type 0 where
  pub some : 0 < gap
  pub again : (s : ℕ) → slot_item slots s ≡ Some i → slot_item slots ((s + gap) % length slots) ≡ Some i
  pub between : (s k : ℕ) → slot_item slots s ≡ Some i → 0 < k → k < gap → slot_item slots ((s + k) % length slots) ≢ Some i

-- The number of an item's disk, which is the one that holds it.
unfoldable pub disk_number : List Disk → ℕ → ℕ
disk_number disks i = position_or_len (λ d. list_any (λ j. j == i) d.items) disks

-- The number of chunks of an item's disk.
unfoldable pub chunks_of : List Disk → ℕ → ℕ
chunks_of disks i = option_map_or (num_chunks (num_minors disks)) (slice_get disks (disk_number disks i)) 0

-- An item's gap: the number of its disk's chunks times the length of a minor cycle.
unfoldable pub gap_of : List Disk → ℕ → ℕ
gap_of disks i = chunks_of disks i * minor_len (num_minors disks) disks

-- An item's PIX number: its rate times the number of its disk's chunks.
unfoldable pub pix_number : List Disk → ℕ → ℕ → ℕ
pix_number disks i rate = rate * chunks_of disks i
