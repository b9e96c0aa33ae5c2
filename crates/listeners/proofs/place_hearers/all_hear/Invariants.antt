use Rattle.std.proofs.Common.{◌≡◌, length}
use Rattle.air_model.specs.Programs.{program as slots_of}
use Rattle.listeners.specs.Private.PlaceSteps.{HearsPlaces}
use Rattle.listeners.proofs.PlaceReaderLemmas.{HeardUpTo}
use Rattle.listeners.proofs.place_hearers.all_hear.Given as goal

-- All up to a place heard the cycle.
abbrev pub invariant-loop-reader : goal.invariant-loop-reader
invariant-loop-reader g l = record {
  heard : HeardUpTo (HearsPlaces l.form l.program.edition (slots_of l.program.disks) (g.S.Source.board l.source) l.first l.recent) l.reader-index l.fn.readers.items l.reader-items;
  buffer : length l.buf ≡ length l.fn.buf;
}
