use Rattle.std.proofs.Common.{◌≡◌}
use Rattle.station.specs.PassStates.{with_seen}
use Rattle.station_tests.proofs.workers.Conductor.start_all.Given as goal

abbrev pub invariant-loop : goal.invariant-loop
invariant-loop g l = (l.self.pass.station ≡ l.station) × (l.self.pass ≡ with_seen l.initial.self.pass l.self.pass.seen)
