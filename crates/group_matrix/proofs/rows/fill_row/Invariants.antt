use Rattle.std.proofs.Common.{◌≡◌, ℕ, ◌<◌, ◌-◌, get_or, length}
use Rattle.std.specs.List.{range_with_len}
use Rattle.air_history.specs.Places.{greatest_of}
use Rattle.control_matrix.specs.Columns.{entry_in_columns}
use Rattle.group_matrix.proofs.rows.fill_row.Given as goal

-- At each place the greatest entry of the columns before.
abbrev pub invariant-loop-item : goal.invariant-loop-item
invariant-loop-item l = (i : ℕ) → i < length l.column → get_or l.column i 0 ≡ greatest_of (λ q. entry_in_columns l.board.columns q i) (range_with_len l.first (l.item - l.first))
