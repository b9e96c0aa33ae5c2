use Rattle.listeners.specs.Private.PlaceSteps.{HasEndedPlaces}
use Rattle.listeners.proofs.PlaceReaderLemmas.{HeardUpTo}
use Rattle.listeners.proofs.place_hearers.end_each.Given as goal

-- All up to a place heard the rest.
abbrev pub invariant-loop-reader : goal.invariant-loop-reader
invariant-loop-reader l = HeardUpTo (HasEndedPlaces l.recent) l.reader-index l.fn.readers.items l.reader-items
