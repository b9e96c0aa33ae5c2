use Rattle.std.proofs.Common.{◌≡◌, List}
use Rattle.air_history.specs.declared.histories.Event.{Event}
use Rattle.air_history.specs.Boards.{board_of}
use Rattle.program_cases.proofs.boards.started_board.Given as goal

-- The board is that of some history.
abbrev pub invariant-loop-part : goal.invariant-loop-part
invariant-loop-part l = (G : List Event) × (l.board ≡ board_of l.values.items G)
