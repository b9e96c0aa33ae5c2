use Rattle.scripts.specs.Beamings.{IsBeaming}
use Rattle.piece_cases.proofs.beaming.beam_pieces.Given as goal

abbrev pub invariant-loop : goal.invariant-loop
invariant-loop l = IsBeaming l.planned l.beaming
