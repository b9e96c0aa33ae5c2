-- A board by groups: one column for each group of items, in place of one for each item.
use Rattle.std.specs.Prelude.{◌≡◌, ℕ, ◌+◌, ◌-◌, ◌*◌, ◌/◌, ◌<◌, List, [], length, get_or, map}
use Rattle.std.specs.List.{range_with_len}
use Rattle.air_history.specs.declared.histories.Event.{Event}
use Rattle.air_history.specs.Places.{greatest_of}
use Rattle.air_history.specs.Histories.{starts}
use Rattle.air_history.specs.Columns.{group_column, group_of}
use Rattle.air_history.specs.Tables.{table_list}
use Rattle.air_history.specs.Boards.{Board}
use Rattle.control_matrix.specs.Columns.{entry_in_columns}

-- Entry i of the group column of item j on a board: the greatest entry i in the board's columns of the items of its group.
abbrev pub group_entry_on : Board → ℕ → ℕ → ℕ → ℕ
group_entry_on board g j i = greatest_of (λ q. entry_in_columns board.columns q i) (group_of g (length board.values) j)

-- The group column of item j on a board.
abbrev pub group_column_on : Board → ℕ → ℕ → List ℕ
group_column_on board g j = map (group_entry_on board g j) (range_with_len 0 (length board.values))

-- How many groups of g items n items make. The last group may be smaller.
abbrev pub count_groups : ℕ → ℕ → ℕ
count_groups g n = (n + (g - 1)) / g

-- A board by groups has the cycle, the values, the number of items of a group, and the column of each group.
pub record GroupBoard : Type 0 where
  pub cycle : ℕ
  pub values : List ℕ
  pub group : ℕ
  pub columns : List (List ℕ)

-- The board by groups of g of a board. Group k begins with item g * k.
abbrev pub grouped : ℕ → Board → GroupBoard
grouped g board = record {
  cycle = board.cycle;
  values = board.values;
  group = g;
  columns = map (λ k. group_column_on board g (g * k)) (range_with_len 0 (count_groups g (length board.values)));
}

-- The column of an item's group.
abbrev pub item_column : GroupBoard → ℕ → List ℕ
item_column b j = get_or b.columns (j / b.group) []

-- The board by groups is that of the events, from the catalog's values: it has their cycle and their values, and each item has its group
-- column.
pub record IsOfEvents (catalog : List ℕ) (G : List Event) (b : GroupBoard) : Type 0 where
  pub cycle : b.cycle ≡ starts G
  pub values : b.values ≡ table_list catalog G
  pub columns : (j : ℕ) → j < length catalog → item_column b j ≡ group_column b.group (length catalog) G j
