-- For private steps only. The fields of the copy slots: the columns of all are one after another.
use Rattle.std.specs.Prelude.{◌≡◌, ◌≤◌, ◌*◌, ℕ, List, length, map, get_or, take, drop}
use Rattle.std.specs.List.{range_with_len}
use Rattle.air_base.specs.declared.limits.TheConstants.{ITEM_NUMBERS, MOST_ROOM}
use Rattle.pix_cache.specs.declared.store.CopySlot.{CopySlot}
use Rattle.pix_cache.specs.declared.store.Store.TheInside.{Inside}
use Rattle.pix_cache.specs.Stores.{Store, StoredCopy, stored_copy}

-- What is read if there is no copy slot.
abbrev pub no_copy_slot : CopySlot
no_copy_slot = record { cycle = 0; value = 0 }

-- The column of a copy slot.
abbrev pub column_of : ℕ → List ℕ → ℕ → List ℕ
column_of n entries copy_slot = take n (drop (copy_slot * n) entries)

-- What a copy slot holds.
abbrev pub stored_in : ℕ → List CopySlot → List ℕ → ℕ → StoredCopy
stored_in n copy_slots entries copy_slot = stored_copy (get_or copy_slots copy_slot no_copy_slot).cycle (get_or copy_slots copy_slot no_copy_slot).value (column_of n entries copy_slot)

-- What each copy slot holds.
abbrev pub stored_of : ℕ → List CopySlot → List ℕ → List StoredCopy
stored_of n copy_slots entries = map (stored_in n copy_slots entries) (range_with_len 0 (length copy_slots))

-- The copy slots that the fields hold.
abbrev pub store_of : Inside → Store
store_of s = record { width = s.n; stores = stored_of s.n s.copy_slots.items s.entries.items }

-- There are entries for the column of each copy slot.
pub record IsStore (s : Inside) : Type 0 where
  pub few : length s.copy_slots.items ≤ MOST_ROOM
  pub many : s.n ≤ ITEM_NUMBERS
  pub sized : length s.entries.items ≡ length s.copy_slots.items * s.n
