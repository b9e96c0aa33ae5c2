use Rattle.std.proofs.Common.{◌≤◌, ◌<◌, ℕ, slice_index}
use Rattle.disk_split.specs.declared.sizes.RestToPlace.{RestToPlace}
use Rattle.disk_split.specs.Private.RestsToPlace.{IsAfter}
use Rattle.disk_split.proofs.sizes.first_size.Given as goal

abbrev pub invariant-loop-size : goal.invariant-loop-size
invariant-loop-size l = (less : ℕ) → 1 ≤ less → less < l.size → (other : RestToPlace) → IsAfter l.sums (slice_index l.chunks 0) l.next l.left less other → ⊥
