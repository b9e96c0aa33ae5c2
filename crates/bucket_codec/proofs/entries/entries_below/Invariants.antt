use Rattle.std.proofs.Common.{◌≡◌}
use Rattle.std.specs.List.{list_all}
use Rattle.air_model.specs.Buckets.{is_entry, raw_entries}
use Rattle.bucket_codec.proofs.entries.entries_below.Given as goal

abbrev pub invariant-loop-i : goal.invariant-loop-i
invariant-loop-i l = l.below ≡ list_all (is_entry 1 l.cycle) (raw_entries 1 l.i l.bytes)
