use Rattle.std.proofs.Common.{◌≡◌, ◌≤◌, ◌<◌, ℕ, max, get_or}
use Rattle.air_lanes.proofs.greater.max_rest.Given as goal

abbrev pub invariant-loop-place : goal.invariant-loop-place
invariant-loop-place l = record {
  before : (k : ℕ) → k < l.from → get_or l.dst k 0 ≡ get_or l.fn.dst k 0;
  done : (k : ℕ) → l.from ≤ k → k < l.place → get_or l.dst k 0 ≡ max (get_or l.fn.dst k 0) (get_or l.src k 0);
  left : (k : ℕ) → l.place ≤ k → get_or l.dst k 0 ≡ get_or l.fn.dst k 0;
}
