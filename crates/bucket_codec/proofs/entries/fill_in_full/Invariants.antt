use Rattle.std.proofs.Common.{◌≡◌, ◌<◌, ◌+◌, ◌*◌, ℕ, get_or}
use Rattle.air_model.specs.Buckets.{number_at}
use Rattle.bucket_codec.proofs.entries.fill_in_full.Given as goal

abbrev pub invariant-loop-i : goal.invariant-loop-i
invariant-loop-i l = (k : ℕ) → k < l.i → get_or l.out k 0 ≡ number_at (24 + 4 * k) 4 l.bytes
