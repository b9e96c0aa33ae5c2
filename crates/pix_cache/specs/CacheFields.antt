-- The fields of a cache: the copy slots, which item has which copy slot, and the tree over the copy slots.
use Rattle.std.specs.Prelude.{◌≡◌, ◌<◌, ◌≤◌, ℕ, true, List, [], ◌∷◌, length, map, get_or, count_by, Option, Some, None}
use Rattle.std.specs.List.{range_with_len}
use Rattle.std.specs.Option.{is_some, option_map}
use Rattle.air_base.specs.declared.limits.TheConstants.{ITEM_NUMBERS, MOST_ROOM}
use Rattle.air_model.specs.Reads.{Read, read_with}
use Rattle.pix_cache.specs.declared.leaf.Leaf.{Leaf}
use Rattle.pix_cache.specs.declared.cache.PixCache.TheInside.{Inside}
use Rattle.pix_cache.specs.Stores.{StoredCopy, no_store}
use Rattle.pix_cache.specs.Leaves.{copy_leaf, nowhere}
use Rattle.pix_cache.specs.Caches.{Cache}

-- The copy of an item in a copy slot.
abbrev pub stored_read : List StoredCopy → ℕ → ℕ → Read
stored_read stores item copy_slot = read_with item (get_or stores copy_slot no_store).cycle (get_or stores copy_slot no_store).value (get_or stores copy_slot no_store).entries

-- The copy of each item, if it has one.
abbrev pub copies_in_store : List StoredCopy → List (Option ℕ) → List (Option Read)
copies_in_store stores places = map (λ item. option_map (stored_read stores item) (get_or places item None)) (range_with_len 0 (length places))

-- The copies that exist.
abbrev pub somes : List (Option Read) → List Read
somes [] = []
somes (None ∷ os) = somes os
somes (Some r ∷ os) = r ∷ somes os

-- The cache that the fields hold.
abbrev pub cache_of : Inside → Cache
cache_of c = record { room = length c.store.stores; pix = c.pix.items; copies = somes (copies_in_store c.store.stores c.places.items) }

-- An item's copy slot has a leaf for that item, and the item of a leaf has that leaf's copy slot.
pub record Agree (pix : List ℕ) (places : List (Option ℕ)) (leaves : List Leaf) : Type 0 where
  pub within : (item copy_slot : ℕ) → item < length places → get_or places item None ≡ Some copy_slot → copy_slot < length leaves
  pub leaf : (item copy_slot : ℕ) → item < length places → get_or places item None ≡ Some copy_slot → get_or leaves copy_slot nowhere ≡ copy_leaf copy_slot (get_or pix item 0) item
  pub item : (copy_slot : ℕ) → copy_slot < length leaves → (get_or leaves copy_slot nowhere).kept ≡ true → (get_or leaves copy_slot nowhere).item < length places
  pub place : (copy_slot : ℕ) → copy_slot < length leaves → (get_or leaves copy_slot nowhere).kept ≡ true → get_or places (get_or leaves copy_slot nowhere).item None ≡ Some copy_slot
  pub counted : count_by is_some places ≡ count_by (λ a. a.kept) leaves

-- There is a leaf for each copy slot, a place and entries for each item, and copy slots and items agree.
pub record KeepsCopies (c : Inside) : Type 0 where
  pub few : length c.store.stores ≤ MOST_ROOM
  pub many : length c.pix.items ≤ ITEM_NUMBERS
  pub items : length c.places.items ≡ length c.pix.items
  pub width : c.store.width ≡ length c.pix.items
  pub copy_slots : length c.tree ≡ length c.store.stores
  pub agree : Agree c.pix.items c.places.items c.tree
