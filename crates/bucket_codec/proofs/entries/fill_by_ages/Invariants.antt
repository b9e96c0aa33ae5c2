use Rattle.std.proofs.Common.{◌≡◌, ◌<◌, ◌+◌, ℕ, get_or, slice_index}
use Rattle.air_model.specs.Buckets.{entry_told}
use Rattle.bucket_codec.proofs.entries.fill_by_ages.Given as goal

abbrev pub invariant-loop-i : goal.invariant-loop-i
invariant-loop-i l = (k : ℕ) → k < l.i → get_or l.out k 0 ≡ entry_told 2 l.cycle (slice_index l.bytes (24 + k))
