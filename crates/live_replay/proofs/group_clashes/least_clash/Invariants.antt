use Rattle.std.proofs.Common.{◌≡◌, drop, length}
use Rattle.air_history.specs.Clashes.{group_clash, named_clash}
use Rattle.live_replay.specs.Findings.{place_of_line, places_read}
use Rattle.live_replay.proofs.group_clashes.least_clash.Given as goal

abbrev pub invariant-loop-k : goal.invariant-loop-k
invariant-loop-k l = l.least ≡ named_clash (λ r. group_clash l.replay.history l.replay.deck.settings.group (length l.replay.deck.items) r (place_of_line l.read)) (drop l.k (places_read l.held))
