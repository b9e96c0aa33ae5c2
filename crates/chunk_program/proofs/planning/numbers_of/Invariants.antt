use Rattle.std.proofs.Common.{◌≡◌, length, take}
use Rattle.chunk_program.specs.Editions.{program_pix}
use Rattle.chunk_program.proofs.planning.numbers_of.Given as goal

abbrev pub invariant-loop-item : goal.invariant-loop-item
invariant-loop-item l = record {
  made : l.numbers.items ≡ take l.item (program_pix l.deck l.program);
  all : l.item-end ≡ length l.deck.items;
}
