use Rattle.std.proofs.Common.{subst, sym, arith}
use Rattle.chunk_program.specs.CutConditions.{AreDeckDisks}
use Rattle.chunk_program.proofs.CutLemmas.{deck_limits}
use Rattle.chunk_program.proofs.programs.Program.plan.Goals as goal

pub of_cut-requires : goal.of_cut-requires
of_cut-requires c =
    subst AreDeckDisks (sym c.requires.cut) (deck_limits c.args.deck.now c.args.edition c.shows_well_made.ensures.made c.shows_well_made.ensures.limits c.requires.edition)

pub overflow_cast-edition : goal.overflow_cast-edition
overflow_cast-edition c = let few = c.shows_well_made.ensures.made.few in let within = c.requires.edition in omega arith
