use Rattle.std.proofs.Common.{◌≡◌, drop, max}
use Rattle.air_history.specs.Reads.{newest_cycle}
use Rattle.live_replay.specs.Findings.{places_read}
use Rattle.live_replay.proofs.policies.newest_cycle.Given as goal

abbrev pub invariant-loop-read : goal.invariant-loop-read
invariant-loop-read l = max l.newest (newest_cycle (places_read (drop l.read-index l.reads))) ≡ newest_cycle (places_read l.reads)
