use Rattle.std.proofs.Common.{◌≡◌, ◌≢◌, ℕ, ◌/◌, ◌*◌, ◌<◌, ◌≤◌, drop}
use Rattle.std.specs.Prelude.{slice_set}
use Rattle.pix_cache.specs.Private.Trees.{IsNode}
use Rattle.pix_cache.proofs.nodes.place.Given as goal

abbrev pub invariant-loop-node : goal.invariant-loop-node
invariant-loop-node l = record {
  some : 1 ≤ l.node;
  within : l.node < 2 * l.copy_slots;
  nodes : (v : ℕ) → 1 ≤ v → v < l.copy_slots → v ≢ l.node / 2 → IsNode l.nodes v;
  leaves : drop l.copy_slots l.nodes ≡ slice_set (drop l.copy_slots l.fn.nodes) l.fn.leaf.copy_slot l.fn.leaf;
}

abbrev pub decreases-loop-node : goal.decreases-loop-node
decreases-loop-node l = l.node
