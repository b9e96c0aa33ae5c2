use Rattle.std.proofs.Common.{◌≡◌, ◌==◌, map, take}
use Rattle.air_history.specs.Clashes.{heard_clash}
use Rattle.held_reads.specs.HeardReads.{heard_of_held}
use Rattle.held_reads.proofs.reads.least_of_cycle.Given as goal

abbrev pub invariant-loop-read : goal.invariant-loop-read
invariant-loop-read l = l.best ≡ heard_clash (λ r. r.cycle == l.cycle) (map heard_of_held (take l.read-index l.reads))
