use Rattle.std.proofs.Common.{◌≡◌, map, max, drop}
use Rattle.air_history.specs.Clashes.{newest_heard}
use Rattle.held_reads.specs.HeardReads.{heard_of_held}
use Rattle.held_reads.proofs.reads.newest_of.Given as goal

abbrev pub invariant-loop-read : goal.invariant-loop-read
invariant-loop-read l = max l.newest (newest_heard (map heard_of_held (drop l.read-index l.reads))) ≡ newest_heard (map heard_of_held l.reads)
