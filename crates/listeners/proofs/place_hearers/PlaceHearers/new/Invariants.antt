use Rattle.std.proofs.Common.{◌≡◌, [], length}
use Rattle.listeners.specs.PlaceListeners.{AreGivenEach}
use Rattle.listeners.proofs.place_hearers.PlaceHearers.new.Given as goal

abbrev pub invariant-loop-r : goal.invariant-loop-r
invariant-loop-r l = (length l.readers.items ≡ l.r) × AreGivenEach l.planned [] l.readers.items
