use Rattle.std.proofs.Common.{◌≡◌, map, take}
use Rattle.air_history.specs.Reads.{origin}
use Rattle.live_replay.specs.Findings.{places_read}
use Rattle.live_replay.proofs.alone.list_origins.Given as goal

abbrev pub invariant-loop-read : goal.invariant-loop-read
invariant-loop-read l = l.origins.items ≡ map (origin l.replay.history) (places_read (take l.read-index l.reads))
