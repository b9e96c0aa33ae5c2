use Rattle.std.proofs.Common.{◌≡◌, ◌≤◌, ◌+◌, ◌*◌, take}
use Rattle.air_base.specs.declared.limits.TheConstants.{MOST_ITEMS}
use Rattle.air_model.specs.Programs.{program as slots_of}
use Rattle.bucket_codec.specs.declared.offsets.TheConstants.{ENTRY_BYTES, HEAD_BYTES, LENGTH_BYTES}
use Rattle.air_sender.specs.TapeSizes.{cycle_size}
use Rattle.air_sender.proofs.airing.cycle_len.Given as goal

-- The records of the slots before, each with at most as many entries as a deck has items.
abbrev pub invariant-loop-slot : goal.invariant-loop-slot
invariant-loop-slot l = record {
  len : l.len ≡ cycle_size l.version l.n (take l.slot (slots_of l.program.disks));
  some : l.slot ≤ l.len;
  few : l.len ≤ (LENGTH_BYTES + HEAD_BYTES + ENTRY_BYTES * MOST_ITEMS) * l.slot;
}
