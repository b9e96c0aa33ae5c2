-- For private steps only. The tree over the copy slots, by the weight of what each holds.
use Rattle.std.specs.Prelude.{◌≡◌, ℕ, ◌+◌, ◌*◌, ◌≤◌, ◌<◌, List, length, get_or}
use Rattle.pix_cache.specs.declared.leaf.Leaf.{Leaf}
use Rattle.pix_cache.specs.Leaves.{lighter, nowhere}

-- A node has the lighter of its children.
abbrev pub IsNode : List Leaf → ℕ → Type 0
IsNode tree v = get_or tree v nowhere ≡ lighter (get_or tree (2 * v) nowhere) (get_or tree (2 * v + 1) nowhere)

-- The tree over this many copy slots: each place from 1 to below their number is a node.
pub record IsTree (copy_slots : ℕ) (tree : List Leaf) : Type 0 where
  pub size : length tree ≡ 2 * copy_slots
  pub nodes : (v : ℕ) → 1 ≤ v → v < copy_slots → IsNode tree v
