-- What the server keeps of a history: the reply to a commit, the board, and the frame that monitors see.
use Rattle.std.specs.Prelude.{ℕ, ◌+◌, ◌%◌, ◌^◌, List, length, map, sum, take}
use Rattle.std.specs.List.{range_with_len}
use Rattle.air_history.specs.declared.histories.Event.{Event}
use Rattle.air_history.specs.UpdateRules.{written_item}
use Rattle.air_history.specs.Histories.{reads, writes_of, event_at, starts, cycle_at}
use Rattle.air_history.specs.Columns.{column, vector}
use Rattle.air_history.specs.Tables.{table, values_of, table_list}

-- The answer to a commit: its place, its cycle, the values that it read and those that it wrote, both in the update's order.
pub record Reply : Type 0 where
  pub number : ℕ
  pub cycle : ℕ
  pub read : List ℕ
  pub written : List ℕ

-- The reply to the commit at place p.
abbrev pub reply_of : List ℕ → List Event → ℕ → Reply
reply_of values H p = record {
  number = p;
  cycle = cycle_at H p;
  read = map (table (values_of values) (take p H)) (reads (event_at H p));
  written = map (table (values_of values) (take (p + 1) H)) (map written_item (writes_of (event_at H p)));
}

-- The control columns of all n items.
abbrev pub columns : ℕ → List Event → List (List ℕ)
columns n G = map (column n G) (range_with_len 0 n)

-- A board: the cycle, the values, the control column of each item, the write vector.
pub record Board : Type 0 where
  pub cycle : ℕ
  pub values : List ℕ
  pub columns : List (List ℕ)
  pub vector : List ℕ

-- The board of a list of events, from the catalog's values.
abbrev pub board_of : List ℕ → List Event → Board
board_of values G = record {
  cycle = starts G;
  values = table_list values G;
  columns = columns (length values) G;
  vector = vector (length values) G;
}

-- A frame: the cycle, the values, the control columns, and the sum of the values modulo 2^64.
pub record Frame : Type 0 where
  pub cycle : ℕ
  pub values : List ℕ
  pub columns : List (List ℕ)
  pub total : ℕ

-- The frame of a list of events, from the catalog's values.
abbrev pub frame_of : List ℕ → List Event → Frame
frame_of values G = record {
  cycle = starts G;
  values = table_list values G;
  columns = columns (length values) G;
  total = sum (table_list values G) % 2 ^ 64;
}
