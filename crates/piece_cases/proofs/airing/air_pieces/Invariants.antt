use Rattle.scripts.specs.Pieces.{IsAiring}
use Rattle.piece_cases.proofs.airing.air_pieces.Given as goal

abbrev pub invariant-loop : goal.invariant-loop
invariant-loop l = IsAiring l.planned l.aired
