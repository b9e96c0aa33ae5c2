-- A board of four items and one of three, and their boards by groups of two.
use Rattle.std.specs.Prelude.{[], ◌∷◌}
use Rattle.air_history.specs.Boards.{Board}
use Rattle.group_matrix.specs.GroupBoards.{GroupBoard}

-- The board in cycle 3, in which item 1 was set to 21 in cycle 1, and in cycle 2 item 3 to what was read of item 1 and 1 more.
abbrev pub four_item_board : Board
four_item_board = record {
  cycle = 3;
  values = 10 ∷ 21 ∷ 30 ∷ 22 ∷ [];
  columns = (0 ∷ 0 ∷ 0 ∷ 0 ∷ []) ∷ (0 ∷ 1 ∷ 0 ∷ 0 ∷ []) ∷ (0 ∷ 0 ∷ 0 ∷ 0 ∷ []) ∷ (0 ∷ 1 ∷ 0 ∷ 2 ∷ []) ∷ [];
  vector = 0 ∷ 1 ∷ 0 ∷ 2 ∷ [];
}

-- The same by groups: the items 0 and 1 have one column, and the items 2 and 3 the other.
abbrev pub four_item_groups : GroupBoard
four_item_groups = record { cycle = 3; values = 10 ∷ 21 ∷ 30 ∷ 22 ∷ []; group = 2; columns = (0 ∷ 1 ∷ 0 ∷ 0 ∷ []) ∷ (0 ∷ 1 ∷ 0 ∷ 2 ∷ []) ∷ [] }

-- Four items by groups of two in a later cycle, with greater entries.
abbrev pub later_groups : GroupBoard
later_groups = record { cycle = 9; values = 1 ∷ 2 ∷ 3 ∷ 4 ∷ []; group = 2; columns = (8 ∷ 8 ∷ 8 ∷ 8 ∷ []) ∷ (8 ∷ 8 ∷ 8 ∷ 8 ∷ []) ∷ [] }

-- The board of the items 0, 1 and 3, under the numbers 0, 1 and 2.
abbrev pub three_item_board : Board
three_item_board = record {
  cycle = 3;
  values = 10 ∷ 21 ∷ 22 ∷ [];
  columns = (0 ∷ 0 ∷ 0 ∷ []) ∷ (0 ∷ 1 ∷ 0 ∷ []) ∷ (0 ∷ 1 ∷ 2 ∷ []) ∷ [];
  vector = 0 ∷ 1 ∷ 2 ∷ [];
}

-- The same by groups of two: the last group has item 2 alone.
abbrev pub three_item_groups : GroupBoard
three_item_groups = record { cycle = 3; values = 10 ∷ 21 ∷ 22 ∷ []; group = 2; columns = (0 ∷ 1 ∷ 0 ∷ []) ∷ (0 ∷ 1 ∷ 2 ∷ []) ∷ [] }

-- Three items by groups of two that weren't filled yet.
abbrev pub unfilled_groups : GroupBoard
unfilled_groups = record { cycle = 0; values = 0 ∷ 0 ∷ 0 ∷ []; group = 2; columns = (0 ∷ 0 ∷ 0 ∷ []) ∷ (0 ∷ 0 ∷ 0 ∷ []) ∷ [] }
