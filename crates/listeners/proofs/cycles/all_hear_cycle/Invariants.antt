use Rattle.std.proofs.Common.{◌≡◌, Some, length, map}
use Rattle.std.specs.List.{range_with_len}
use Rattle.air_model.specs.Programs.{program as slots_of}
use Rattle.air_sender.specs.BoardBuckets.{bucket_on}
use Rattle.listeners.specs.Listeners.{hears}
use Rattle.listeners.proofs.ReaderLemmas.{HeardUpTo}
use Rattle.listeners.proofs.cycles.all_hear_cycle.Given as goal

abbrev pub invariant-loop-listener : goal.invariant-loop-listener
invariant-loop-listener g l = record {
  heard : HeardUpTo (hears (map (λ s. Some (bucket_on l.form l.program.edition (slots_of l.program.disks) (g.S.Source.board l.source) s)) (range_with_len 0 (length (slots_of l.program.disks))))) l.listener-index l.fn.listeners.items l.listener-items;
  buffer : length l.buf ≡ length l.fn.buf;
}
