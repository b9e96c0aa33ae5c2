use Rattle.std.proofs.Common.{◌≡◌, ◌≤◌, map, max, drop}
use Rattle.air_history.specs.Clashes.{read_at, newest_heard}
use Rattle.air_history.proofs.AgeLemmas.{oldest_with}
use Rattle.held_reads.specs.HeardReads.{heard_of_held}
use Rattle.held_reads.proofs.reads.span_with.Given as goal

abbrev pub invariant-loop-read : goal.invariant-loop-read
invariant-loop-read l = record {
  newest : max l.newest (newest_heard (map heard_of_held (drop l.read-index l.reads))) ≡ max l.cycle (newest_heard (map heard_of_held l.reads));
  oldest : oldest_with l.oldest (map read_at (map heard_of_held (drop l.read-index l.reads))) ≡ oldest_with l.cycle (map read_at (map heard_of_held l.reads));
  order : l.oldest ≤ l.newest;
}
