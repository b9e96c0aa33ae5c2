use Rattle.std.proofs.Common.{◌≡◌, length}
use Rattle.board_cases.proofs.draws.drawn_board.Given as goal

abbrev pub invariant-loop : goal.invariant-loop
invariant-loop l = length l.board.values ≡ l.n
