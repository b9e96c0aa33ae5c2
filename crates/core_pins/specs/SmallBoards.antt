-- A small board.
use Rattle.std.specs.Prelude.{[], ◌∷◌}
use Rattle.air_history.specs.Boards.{Board}

-- A board of two items in cycle 2, of which item 1 was written in cycle 1 from item 0.
abbrev pub pair_board : Board
pair_board = record {
  cycle = 2;
  values = 11 ∷ 12 ∷ [];
  columns = (1 ∷ 0 ∷ []) ∷ (1 ∷ 1 ∷ []) ∷ [];
  vector = 1 ∷ 1 ∷ [];
}
