-- What contracts see of the fields of a board, and what always holds of them.
use Rattle.std.specs.Prelude.{◌≡◌, ◌*◌, ◌≤◌, length}
use Rattle.air_base.specs.declared.limits.TheConstants.{MOST_VALUES}
use Rattle.air_history.specs.Boards.{Board}
use Rattle.control_matrix.specs.declared.board.Board.TheInside.{Inside}
use Rattle.control_matrix.specs.Columns.{columns_in}

-- The board that the fields hold.
abbrev pub board_in : Inside → Board
board_in b = record {
  cycle = b.cycle;
  values = b.values.items;
  columns = columns_in (length b.values.items) b.columns.items;
  vector = b.vector.items;
}

-- There are 1 to 1,024 values, as many columns with as many entries each, as many vector entries, and room for a column and for
-- marks.
pub record IsBoard (b : Inside) : Type 0 where
  pub some : 1 ≤ length b.values.items
  pub few : length b.values.items ≤ MOST_VALUES
  pub columns : length b.columns.items ≡ length b.values.items * length b.values.items
  pub vector : length b.vector.items ≡ length b.values.items
  pub spare : length b.spare.items ≡ length b.values.items
  pub marks : length b.marks.items ≡ length b.values.items
