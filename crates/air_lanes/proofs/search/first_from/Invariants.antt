use Rattle.std.proofs.Common.{◌≡◌, ◌<◌, ◌+◌, ◌-◌, ◌*◌, ◌/◌, ℕ, length, get_or}
use Rattle.air_lanes.proofs.search.first_from.Given as goal

abbrev pub invariant-loop-block : goal.invariant-loop-block
invariant-loop-block l = record {
  blocks : l.blocks ≡ (length l.column - l.from) / 8;
  below : (k : ℕ) → k < l.from + 8 * l.block → get_or l.column k 0 < get_or l.held k 0;
}
