-- For private steps only. The fields of a tree: its nodes, followed by its leaves.
use Rattle.std.specs.Prelude.{◌≡◌, ℕ, ◌≤◌, ◌<◌, List, length, get_or, drop}
use Rattle.air_base.specs.declared.limits.TheConstants.{MOST_ROOM}
use Rattle.pix_cache.specs.declared.leaf.Leaf.{Leaf}
use Rattle.pix_cache.specs.declared.tree.Tree.TheInside.{Inside}
use Rattle.pix_cache.specs.Leaves.{nowhere}
use Rattle.pix_cache.specs.Private.Trees.{IsTree}

-- The leaves, one for each copy slot.
abbrev pub leaves_of : Inside → List Leaf
leaves_of t = drop t.copy_slots t.nodes.items

-- Each leaf has the number of its copy slot.
abbrev pub TellCopySlots : List Leaf → Type 0
TellCopySlots leaves = (copy_slot : ℕ) → copy_slot < length leaves → (get_or leaves copy_slot nowhere).copy_slot ≡ copy_slot

-- The nodes are a tree over the copy slots, and each leaf has the number of its copy slot.
pub record KeepsTree (t : Inside) : Type 0 where
  pub few : t.copy_slots ≤ MOST_ROOM
  pub tree : IsTree t.copy_slots t.nodes.items
  pub told : TellCopySlots (drop t.copy_slots t.nodes.items)
