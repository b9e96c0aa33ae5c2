use Rattle.disk_split.specs.Private.Bests.{IsFound}
use Rattle.disk_split.proofs.search.best_sizes.Given as goal

abbrev pub invariant-loop-slots : goal.invariant-loop-slots
invariant-loop-slots l = IsFound l.sums l.chunks l.slots l.best
