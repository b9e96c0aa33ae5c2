use Rattle.std.proofs.Common.{◌≡◌}
use Rattle.listeners.specs.Private.TogetherSteps.{listeners_in}
use Rattle.listeners.proofs.together.listeners_of_readers.Given as goal

abbrev pub invariant-loop-reader : goal.invariant-loop-reader
invariant-loop-reader l = l.listeners.items ≡ listeners_in l.yielded
