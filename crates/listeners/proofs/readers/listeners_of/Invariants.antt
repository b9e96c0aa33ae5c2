use Rattle.std.proofs.Common.{◌≡◌, map}
use Rattle.std.specs.List.{range_with_len}
use Rattle.listeners.specs.Listeners.{listener_of}
use Rattle.listeners.proofs.readers.listeners_of.Given as goal

abbrev pub invariant-loop-r : goal.invariant-loop-r
invariant-loop-r l = l.listeners.items ≡ map (listener_of l.planned) (range_with_len 0 l.r)
