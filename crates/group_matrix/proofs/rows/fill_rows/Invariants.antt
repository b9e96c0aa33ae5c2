use Rattle.std.proofs.Common.{◌≡◌, ◌*◌, ℕ, ◌<◌, length}
use Rattle.control_matrix.specs.Columns.{column_in}
use Rattle.group_matrix.specs.GroupBoards.{group_column_on}
use Rattle.group_matrix.proofs.rows.fill_rows.Given as goal

-- The groups before have their columns.
abbrev pub invariant-loop-row : goal.invariant-loop-row
invariant-loop-row l = (r : ℕ) → r < l.row → column_in (length l.board.values) l.entries r ≡ group_column_on l.board l.group (l.group * r)
