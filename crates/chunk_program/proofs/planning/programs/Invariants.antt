use Rattle.std.proofs.Common.{◌≡◌, map}
use Rattle.std.specs.List.{range_with_len}
use Rattle.chunk_program.specs.Editions.{edition_disks}
use Rattle.chunk_program.specs.Plans.{AreShortBelow}
use Rattle.chunk_program.proofs.planning.programs.Given as goal

abbrev pub invariant-loop-edition : goal.invariant-loop-edition
invariant-loop-edition l = record {
  made : l.programs.items ≡ map (edition_disks l.deck) (range_with_len 0 l.edition);
  short : AreShortBelow l.deck l.edition;
}
