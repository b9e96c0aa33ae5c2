use Rattle.std.proofs.Common.{◌≡◌, ◌≤◌, max, drop}
use Rattle.air_history.specs.Reads.{newest_cycle}
use Rattle.air_history.proofs.AgeLemmas.{oldest_with}
use Rattle.live_replay.specs.Findings.{places_read}
use Rattle.live_replay.proofs.spans.span_of_line.Given as goal

abbrev pub invariant-loop-read : goal.invariant-loop-read
invariant-loop-read l = record {
  newest : max l.newest (newest_cycle (places_read (drop l.read-index l.reads))) ≡ max l.cycle (newest_cycle (places_read l.reads));
  oldest : oldest_with l.oldest (places_read (drop l.read-index l.reads)) ≡ oldest_with l.cycle (places_read l.reads);
  order : l.oldest ≤ l.newest;
}
