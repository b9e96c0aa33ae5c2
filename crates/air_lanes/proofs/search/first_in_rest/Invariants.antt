use Rattle.std.proofs.Common.{◌<◌, ℕ, get_or}
use Rattle.air_lanes.proofs.search.first_in_rest.Given as goal

abbrev pub invariant-loop-place : goal.invariant-loop-place
invariant-loop-place l = (k : ℕ) → k < l.place → get_or l.column k 0 < get_or l.held k 0
