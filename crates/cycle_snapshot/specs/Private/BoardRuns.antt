-- For private steps only. How a batch changes a board, and a side.
use Rattle.std.specs.Prelude.{ℕ, Bool, ◌-◌, ◌^◌, cond, nat_lt, ◌==◌, ◌&&◌, List, length}
use Rattle.air_history.specs.declared.histories.Event.{Event}
use Rattle.air_history.specs.Boards.{Board}
use Rattle.control_matrix.specs.BoardSteps.{step_all}
use Rattle.cycle_snapshot.specs.declared.board_sides.BoardSide.{BoardSide}
use Rattle.cycle_snapshot.specs.declared.board_sides.News.{News}

-- Whether the board can take a batch with one start for this number of items: the board has as many items, and one more cycle
-- can be numbered.
abbrev pub takes : Board → ℕ → Bool
takes b items = (items == length b.values) && nat_lt b.cycle (2 ^ 32 - 2)

-- The board with the batch, if it can take it; otherwise the board itself.
unfoldable pub after_batch : Board → ℕ → List Event → Board
after_batch b items batch = cond (takes b items) (step_all b batch) b

-- The side that took in the news.
abbrev pub after_news : BoardSide → News → BoardSide
after_news x news = record { board = after_batch x.board news.items news.batch; values = x.values; most = x.most; list = news.list }
