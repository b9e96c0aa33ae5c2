use Rattle.std.proofs.Common.{◌<◌, ℕ, get_or}
use Rattle.bucket_cases.proofs.columns.are_below.Given as goal

abbrev pub invariant-loop-i : goal.invariant-loop-i
invariant-loop-i l = (k : ℕ) → k < l.i → get_or l.entries k 0 < l.cycle
