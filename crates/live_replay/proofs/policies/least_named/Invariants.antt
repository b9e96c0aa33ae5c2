use Rattle.std.proofs.Common.{◌≡◌, drop}
use Rattle.air_history.specs.Clashes.{named_clash}
use Rattle.live_replay.specs.Findings.{places_read}
use Rattle.live_replay.specs.Private.NamedClashes.{named_by}
use Rattle.live_replay.proofs.policies.least_named.Given as goal

abbrev pub invariant-loop-k : goal.invariant-loop-k
invariant-loop-k l = l.least ≡ named_clash (named_by l.replay.history l.test) (drop l.k (places_read l.held))
