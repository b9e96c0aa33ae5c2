use Rattle.std.proofs.Common.{◌≡◌, ℕ, ◌<◌, false, drop, get_or}
use Rattle.pix_cache.specs.Leaves.{nowhere}
use Rattle.pix_cache.specs.Private.Trees.{IsTree}
use Rattle.pix_cache.proofs.nodes.blank.Given as goal

abbrev pub invariant-loop-copy_slot : goal.invariant-loop-copy_slot
invariant-loop-copy_slot l = record {
  tree : IsTree l.copy_slots l.nodes.items;
  none : (s : ℕ) → s < l.copy_slot → get_or (drop l.copy_slots l.nodes.items) s nowhere ≡ record { copy_slot = s; kept = false; pix = 0; item = 0 };
}
