use Rattle.turnstile_tests.specs.Workers.{IsSamePass}
use Rattle.turnstile_tests.proofs.workers.go_through.Given as goal

abbrev pub invariant-loop : goal.invariant-loop
invariant-loop g l = IsSamePass l.initial.pass l.pass
