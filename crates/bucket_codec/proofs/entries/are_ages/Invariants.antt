use Rattle.std.proofs.Common.{◌≡◌}
use Rattle.std.specs.List.{list_all}
use Rattle.air_model.specs.Buckets.{is_entry, raw_entries}
use Rattle.bucket_codec.proofs.entries.are_ages.Given as goal

abbrev pub invariant-loop-i : goal.invariant-loop-i
invariant-loop-i l = l.ages ≡ list_all (is_entry 2 l.cycle) (raw_entries 2 l.i l.bytes)
