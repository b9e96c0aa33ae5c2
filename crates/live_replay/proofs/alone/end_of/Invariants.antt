use Rattle.std.proofs.Common.{◌<◌, ◌≤◌, ℕ, None, IfSome, get_or}
use Rattle.live_replay.proofs.alone.end_of.Given as goal

abbrev pub invariant-loop-origin : goal.invariant-loop-origin
invariant-loop-origin l = record {
  within : l.end ≤ l.count;
  all : (k : ℕ) → k < l.origin-index → IfSome (get_or l.origins k None) (λ w. w < l.end);
}
