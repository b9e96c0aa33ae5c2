-- What contracts see of the fields of a board by groups, and what always holds of them.
use Rattle.std.specs.Prelude.{◌≡◌, ◌*◌, ◌≤◌, ℕ, List, length, map}
use Rattle.std.specs.List.{range_with_len}
use Rattle.air_base.specs.declared.limits.TheConstants.{MOST_GROUP, MOST_VALUES}
use Rattle.control_matrix.specs.Columns.{column_in}
use Rattle.group_matrix.specs.GroupBoards.{GroupBoard, count_groups}
use Rattle.group_matrix.specs.declared.groups.GroupBoard.TheInside.{Inside}

-- The first m columns of n entries in a flat list.
abbrev pub rows_in : ℕ → ℕ → List ℕ → List (List ℕ)
rows_in m n entries = map (column_in n entries) (range_with_len 0 m)

-- The board by groups that the fields hold.
abbrev pub group_board_in : Inside → GroupBoard
group_board_in b = record {
  cycle = b.cycle;
  values = b.values.items;
  group = b.group;
  columns = rows_in (count_groups b.group (length b.values.items)) (length b.values.items) b.columns.items;
}

-- There are 1 to 1,024 values, a group has 1 to 1,024 items, and there is a column of as many entries for each group.
pub record IsGroupBoard (b : Inside) : Type 0 where
  pub some : 1 ≤ length b.values.items
  pub few : length b.values.items ≤ MOST_VALUES
  pub some_group : 1 ≤ b.group
  pub few_group : b.group ≤ MOST_GROUP
  pub columns : length b.columns.items ≡ count_groups b.group (length b.values.items) * length b.values.items
