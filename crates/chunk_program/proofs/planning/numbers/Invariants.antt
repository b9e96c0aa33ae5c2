use Rattle.std.proofs.Common.{◌≡◌, map, take}
use Rattle.chunk_program.specs.Editions.{program_pix}
use Rattle.chunk_program.proofs.planning.numbers.Given as goal

abbrev pub invariant-loop-program : goal.invariant-loop-program
invariant-loop-program l = l.pix.items ≡ map (program_pix l.deck) (take l.program-index l.programs)
