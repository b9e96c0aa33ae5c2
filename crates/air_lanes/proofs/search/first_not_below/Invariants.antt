use Rattle.std.proofs.Common.{◌≡◌, ◌<◌, ◌*◌, ◌/◌, ℕ, length, get_or}
use Rattle.air_lanes.proofs.search.first_not_below.Given as goal

abbrev pub invariant-loop-group : goal.invariant-loop-group
invariant-loop-group l = record {
  groups : l.groups ≡ length l.column / 32;
  below : (k : ℕ) → k < 32 * l.group → get_or l.column k 0 < get_or l.held k 0;
}
