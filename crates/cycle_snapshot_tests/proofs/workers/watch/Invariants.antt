use Rattle.cycle_snapshot_tests.specs.Workers.{HasThree}
use Rattle.cycle_snapshot_tests.proofs.workers.watch.Given as goal

abbrev pub invariant-loop : goal.invariant-loop
invariant-loop l = HasThree l.monitor
