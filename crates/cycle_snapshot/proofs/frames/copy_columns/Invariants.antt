use Rattle.std.proofs.Common.{◌≡◌, ℕ, ◌<◌, [], get_or, length, All}
use Rattle.cycle_snapshot.proofs.frames.copy_columns.Given as goal

abbrev pub invariant-loop-item : goal.invariant-loop-item
invariant-loop-item l = record {
  sized : length l.columns ≡ length l.board.values;
  entries : All (λ c. length c.items ≡ length l.board.values) l.columns;
  copied : (k : ℕ) (d : _) → k < l.item → (get_or l.columns k d).items ≡ get_or l.board.columns k [];
}
