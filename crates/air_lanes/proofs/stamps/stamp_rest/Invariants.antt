use Rattle.std.proofs.Common.{◌≡◌, ◌≤◌, ◌<◌, ◌==◌, ℕ, get_or, if◌then◌else◌}
use Rattle.air_lanes.proofs.stamps.stamp_rest.Given as goal

abbrev pub invariant-loop-place : goal.invariant-loop-place
invariant-loop-place l = record {
  before : (k : ℕ) → k < l.from → get_or l.dst k 0 ≡ get_or l.fn.dst k 0;
  done : (k : ℕ) → l.from ≤ k → k < l.place → get_or l.dst k 0 ≡ (if get_or l.marks k 0 == 0 then get_or l.fn.dst k 0 else l.cycle);
  left : (k : ℕ) → l.place ≤ k → get_or l.dst k 0 ≡ get_or l.fn.dst k 0;
}
