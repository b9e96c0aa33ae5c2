-- The age of an entry is how many cycles ago it was written. An age of one byte gives only a young entry, so reads can be
-- judged by ages only if their cycles are close together.
use Rattle.std.specs.Prelude.{ℕ, ◌-◌, Bool, cond, nat_le, nat_lt, List}
use Rattle.air_base.specs.declared.limits.TheConstants.{AGE_CAP}
use Rattle.air_history.specs.Reads.{ReadAt, newest_cycle, oldest_cycle}

-- The entry e as an age gives it in cycle c: e if it is less than 255 cycles old, otherwise 0, as if there were no writer.
unfoldable pub capped : ℕ → ℕ → ℕ
capped e c = cond (nat_lt (c - e) AGE_CAP) e 0

-- The number of cycles from the oldest read to the newest one; 0 if there is no read.
unfoldable pub span : List ReadAt → ℕ
span R = newest_cycle R - oldest_cycle R

-- Whether the reads are too far apart to be judged by ages.
unfoldable pub spans_too_far : List ReadAt → Bool
spans_too_far R = nat_le AGE_CAP (span R)
