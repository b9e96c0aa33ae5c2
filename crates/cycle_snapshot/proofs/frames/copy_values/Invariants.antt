use Rattle.std.proofs.Common.{◌≡◌, ℕ, ◌<◌, get_or, length}
use Rattle.cycle_snapshot.proofs.frames.copy_values.Given as goal

abbrev pub invariant-loop-item : goal.invariant-loop-item
invariant-loop-item l = record {
  sized : length l.values ≡ length l.board.values;
  copied : (k : ℕ) → k < l.item → get_or l.values k 0 ≡ get_or l.board.values k 0;
}
