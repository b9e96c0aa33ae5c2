use Rattle.std.proofs.Common.{◌≡◌, ◌≤◌, ◌-◌, Some, length, map}
use Rattle.std.specs.List.{range_with_len}
use Rattle.air_model.specs.Programs.{program as slots_of}
use Rattle.air_sender.specs.BoardBuckets.{bucket_on}
use Rattle.listeners.specs.Listeners.{hears}
use Rattle.listeners.proofs.cycles.hear_cycle.Given as goal

-- The slots before were heard.
abbrev pub invariant-loop-slot : goal.invariant-loop-slot
invariant-loop-slot g l = record {
  within : l.slot ≤ length (slots_of l.program.disks);
  heard : l.listener ≡ hears (map (λ s. Some (bucket_on l.form l.program.edition (slots_of l.program.disks) (g.S.Source.board l.source) s)) (range_with_len 0 l.slot)) l.fn.listener;
  buffer : length l.buf ≡ length l.fn.buf;
}

abbrev pub decreases-loop-slot : goal.decreases-loop-slot
decreases-loop-slot g l = length (slots_of l.program.disks) - l.slot
