use Rattle.std.proofs.Common.{◌≤◌, ◌++◌, List, ℕ, drop}
use Rattle.disk_split.specs.Rests.{IsFirst}
use Rattle.disk_split.specs.Private.RestsToPlace.{IsLeastRest}
use Rattle.disk_split.proofs.sizes.sizes.Given as goal

abbrev pub invariant-loop-disk : goal.invariant-loop-disk
invariant-loop-disk l = record {
  least : IsLeastRest l.sums (drop l.disk l.chunks) l.rest;
  fewer : l.rest.slots ≤ l.fn.left.slots;
  first : (after : List ℕ) → IsFirst l.sums (drop l.disk l.chunks) l.rest.from l.rest.slots l.rest.weight after
      → IsFirst l.sums l.chunks l.fn.left.from l.fn.left.slots l.fn.left.weight (l.sizes.items ++ after);
}
