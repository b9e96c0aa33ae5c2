use Rattle.std.proofs.Common.{◌≡◌, ◌≤◌, ◌+◌, ◌*◌}
use Rattle.std.specs.List.{range_with_len}
use Rattle.air_base.specs.declared.limits.TheConstants.{MOST_ITEMS, MOST_SLOTS}
use Rattle.bucket_codec.specs.declared.offsets.TheConstants.{ENTRY_BYTES, HEAD_BYTES, LENGTH_BYTES}
use Rattle.air_history.specs.Places.{greatest_of}
use Rattle.scripts.specs.LongestCycles.{edition_size}
use Rattle.scripts.proofs.sizes.longest_cycle.Given as goal

-- The longest of the editions before.
abbrev pub invariant-loop-edition : goal.invariant-loop-edition
invariant-loop-edition l = record {
  told : l.longest ≡ greatest_of (edition_size l.planned) (range_with_len 0 l.edition);
  some : 1 ≤ l.edition → 1 ≤ l.longest;
  few : l.longest ≤ (LENGTH_BYTES + HEAD_BYTES + ENTRY_BYTES * MOST_ITEMS) * MOST_SLOTS;
}
