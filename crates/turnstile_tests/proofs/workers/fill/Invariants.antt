use Rattle.turnstile_tests.specs.Workers.{IsSamePass}
use Rattle.turnstile_tests.proofs.workers.fill.Given as goal

abbrev pub invariant-loop-value : goal.invariant-loop-value
invariant-loop-value g l = IsSamePass l.initial.pass l.pass
