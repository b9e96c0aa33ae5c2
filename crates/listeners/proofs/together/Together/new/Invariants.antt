use Rattle.std.proofs.Common.{◌≡◌, map}
use Rattle.std.specs.List.{range_with_len}
use Rattle.listeners.specs.Listeners.{listener_of}
use Rattle.listeners.specs.Private.TogetherSteps.{listeners_in}
use Rattle.listeners.proofs.together.Together.new.Given as goal

abbrev pub invariant-loop-r : goal.invariant-loop-r
invariant-loop-r l = listeners_in l.readers.items ≡ map (listener_of l.planned) (range_with_len 0 l.r)
