-- The order of copy slots by what each holds: an empty one first, then the copy that is dropped first.
use Rattle.std.specs.Prelude.{ℕ, ◌+◌, ◌-◌, ◌*◌, true, false, if◌then◌else◌, nat_lt, List, get_or}
use Rattle.pix_cache.specs.declared.leaf.Leaf.{Leaf}
use Rattle.air_base.specs.declared.limits.TheConstants.{ITEM_NUMBERS}

-- The leaf of an empty copy slot.
abbrev pub empty_leaf : ℕ → Leaf
empty_leaf copy_slot = record { copy_slot = copy_slot; kept = false; pix = 0; item = 0 }

-- The leaf of a copy slot with a copy of an item with that PIX number.
abbrev pub copy_leaf : ℕ → ℕ → ℕ → Leaf
copy_leaf copy_slot pix item = record { copy_slot = copy_slot; kept = true; pix = pix; item = item }

-- What is read if there is no leaf.
abbrev pub nowhere : Leaf
nowhere = empty_leaf 0

-- The weight of a copy slot. An empty one weighs 0; a copy weighs more for a greater PIX number and, among equals, less for a
-- greater item number.
abbrev pub weight : Leaf → ℕ
weight a = if a.kept then a.pix * (ITEM_NUMBERS + 2) + (ITEM_NUMBERS - a.item) + 1 else 0

-- The lighter of two copy slots; the first if they weigh the same.
abbrev pub lighter : Leaf → Leaf → Leaf
lighter a b = if nat_lt (weight b) (weight a) then b else a

-- The leaf with its item's PIX number.
abbrev pub renumbered_leaf : List ℕ → Leaf → Leaf
renumbered_leaf pix a = if a.kept then copy_leaf a.copy_slot (get_or pix a.item 0) a.item else a
