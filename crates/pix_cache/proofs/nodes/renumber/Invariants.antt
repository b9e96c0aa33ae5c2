use Rattle.std.proofs.Common.{◌≡◌, ℕ, ◌<◌, ◌≤◌, drop, get_or}
use Rattle.pix_cache.specs.Leaves.{nowhere, renumbered_leaf}
use Rattle.pix_cache.specs.Private.Trees.{IsTree}
use Rattle.pix_cache.proofs.nodes.renumber.Given as goal

abbrev pub invariant-loop-copy_slot : goal.invariant-loop-copy_slot
invariant-loop-copy_slot l = record {
  tree : IsTree l.copy_slots l.nodes;
  done : (s : ℕ) → s < l.copy_slot → get_or (drop l.copy_slots l.nodes) s nowhere ≡ renumbered_leaf l.pix (get_or (drop l.copy_slots l.fn.nodes) s nowhere);
  left : (s : ℕ) → l.copy_slot ≤ s → s < l.copy_slots → get_or (drop l.copy_slots l.nodes) s nowhere ≡ get_or (drop l.copy_slots l.fn.nodes) s nowhere;
}
