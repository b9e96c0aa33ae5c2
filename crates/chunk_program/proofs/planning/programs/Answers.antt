use Rattle.std.proofs.Common.{◌++◌, ◌∷◌, [], map, ap, ◌∙◌}
use Rattle.std.specs.List.{range_with_len}
use Rattle.chunk_program.specs.Editions.{edition_disks}
use Rattle.chunk_program.proofs.EditionSteps.{program_more, short_more}
use Rattle.chunk_program.proofs.planning.programs.Goals as goal

pub loop-edition-preserved : goal.loop-edition-preserved
loop-edition-preserved c =
    let deck = c.args.deck.now in let e = c.loop-edition.edition in
    record {
      made = c.in_ok-push.ensures.items ∙ ap (λ l. l ++ c.in_ok-program.program ∷ []) c.loop-edition.invariant.made
          ∙ ap (λ p. map (edition_disks deck) (range_with_len 0 e) ++ p ∷ []) c.in_ok-program.ensures.planned ∙ program_more deck e;
      short = short_more deck e c.loop-edition.invariant.short c.in_ok-program.ensures.short;
    }
