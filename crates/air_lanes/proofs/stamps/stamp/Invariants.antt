use Rattle.std.proofs.Common.{◌≡◌, ◌≤◌, ◌<◌, ◌*◌, ◌/◌, ◌==◌, ℕ, length, get_or, if◌then◌else◌}
use Rattle.air_lanes.proofs.stamps.stamp.Given as goal

abbrev pub invariant-loop-block : goal.invariant-loop-block
invariant-loop-block l = record {
  whole : l.whole ≡ length l.fn.dst / 8;
  done : (k : ℕ) → k < 8 * l.block → get_or l.dst k 0 ≡ (if get_or l.marks k 0 == 0 then get_or l.fn.dst k 0 else l.cycle);
  left : (k : ℕ) → 8 * l.block ≤ k → get_or l.dst k 0 ≡ get_or l.fn.dst k 0;
}
