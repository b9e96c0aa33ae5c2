-- For private steps alone. What is left to place, disk by disk.
use Rattle.std.specs.Prelude.{◌≡◌, ◌≤◌, ◌<◌, ℕ, ◌+◌, ◌-◌, ◌*◌, Option, Some, None, List, [], length, slice_index_or}
use Rattle.disk_split.specs.declared.sizes.RestToPlace.{RestToPlace}
use Rattle.disk_split.specs.Rests.{chunk_slots, rates_from}
use Rattle.disk_split.specs.Private.Tables.{IsCell}

-- A disk with this number of chunks takes `size` of the items, and what the disks after it weigh at least in the slots that are left makes
-- up the weight that is left.
pub record IsAfter (sums : List ℕ) (chunks : ℕ) (next : List (List (Option ℕ))) (left : RestToPlace) (size : ℕ) (rest : RestToPlace) : Type 0 where
  pub room : chunk_slots chunks size ≤ left.slots
  pub from : rest.from ≡ left.from + size
  pub slots : rest.slots ≡ left.slots - chunk_slots chunks size
  pub cell : slice_index_or (slice_index_or next (left.from + size) []) (left.slots - chunk_slots chunks size) None ≡ Some rest.weight
  pub total : rest.weight + chunks * rates_from sums left.from size ≡ left.weight

-- This is the smallest size with which the disks after it make up the weight that is left.
pub record IsFirstSize (sums : List ℕ) (chunks : ℕ) (next : List (List (Option ℕ))) (left : RestToPlace) (size : ℕ) (rest : RestToPlace) : Type 0 where
  pub filled : 1 ≤ size
  pub within : left.from + size < length sums
  pub after : IsAfter sums chunks next left size rest
  pub first : (less : ℕ) → 1 ≤ less → less < size → (other : RestToPlace) → IsAfter sums chunks next left less other → ⊥

-- What is left is the least weight of its place and its number of slots.
pub record IsLeastRest (sums chunks : List ℕ) (left : RestToPlace) : Type 0 where
  pub cell : IsCell sums chunks left.from left.slots (Some left.weight)
  pub within : left.from < length sums
