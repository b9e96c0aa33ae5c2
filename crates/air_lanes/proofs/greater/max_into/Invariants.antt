use Rattle.std.proofs.Common.{◌≡◌, ◌≤◌, ◌<◌, ◌*◌, ◌/◌, ℕ, length, max, get_or}
use Rattle.air_lanes.proofs.greater.max_into.Given as goal

abbrev pub invariant-loop-block : goal.invariant-loop-block
invariant-loop-block l = record {
  whole : l.whole ≡ length l.fn.dst / 8;
  done : (k : ℕ) → k < 8 * l.block → get_or l.dst k 0 ≡ max (get_or l.fn.dst k 0) (get_or l.src k 0);
  left : (k : ℕ) → 8 * l.block ≤ k → get_or l.dst k 0 ≡ get_or l.fn.dst k 0;
}
