use Rattle.scripts.specs.PieceRuns.{IsPieceRun}
use Rattle.piece_cases.proofs.airing.run_pieces.Given as goal

abbrev pub invariant-loop-cycles : goal.invariant-loop-cycles
invariant-loop-cycles l = IsPieceRun l.planned l.run
