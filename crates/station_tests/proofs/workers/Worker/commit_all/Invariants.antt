use Rattle.station_tests.specs.Workers.{FitsStation}
use Rattle.station_tests.proofs.workers.Worker.commit_all.Given as goal

abbrev pub invariant-loop : goal.invariant-loop
invariant-loop g l = FitsStation l.station l.self.pass l.self.update
