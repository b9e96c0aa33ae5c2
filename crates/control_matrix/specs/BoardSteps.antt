-- How one event, and a list of events, changes a board, for every board and every event.
use Rattle.std.specs.Prelude.{ℕ, ◌+◌, cond, List, [], ◌∷◌, length, fold, get_or, map}
use Rattle.std.specs.List.{range_with_len}
use Rattle.air_history.specs.declared.histories.Event.{Event}
use Rattle.air_history.specs.Histories.{is_start, writes}
use Rattle.air_history.specs.Tables.{table_list}
use Rattle.air_history.specs.Boards.{Board}
use Rattle.control_matrix.specs.Columns.{next_columns}

-- The write vector of n items after the event: the cycle at the items that it writes, otherwise the old entry.
abbrev pub next_vector : ℕ → ℕ → List ℕ → Event → List ℕ
next_vector n cycle vector e = map (λ i. cond (writes e i) cycle (get_or vector i 0)) (range_with_len 0 n)

-- The board after the event. A start begins the next cycle and changes nothing else. A commit writes the values, the columns
-- and the vector entries of the items that it writes, all computed from the board before it.
unfoldable pub step_board : Board → Event → Board
step_board b e = record {
  cycle = cond (is_start e) (b.cycle + 1) b.cycle;
  values = table_list b.values (e ∷ []);
  columns = next_columns (length b.values) b.cycle b.columns e;
  vector = next_vector (length b.values) b.cycle b.vector e;
}

-- The board after the events, in order.
abbrev pub step_all : Board → List Event → Board
step_all b events = fold step_board b events
