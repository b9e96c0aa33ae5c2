use Rattle.std.proofs.Common.{◌≡◌, map}
use Rattle.listeners.proofs.place_hearers.listeners_of_places.Given as goal

abbrev pub invariant-loop-reader : goal.invariant-loop-reader
invariant-loop-reader l = l.listeners.items ≡ map (λ reader. reader.listener) l.yielded
