use Rattle.std.proofs.Common.{subst, sym, ◌∙◌}
use Rattle.air_model.specs.Decks.{rates_in}
use Rattle.chunk_program.specs.CutConditions.{IsCuttable}
use Rattle.chunk_program.proofs.CutLemmas.{deck_cuttable}
use Rattle.chunk_program.proofs.cutting.cut.Goals as goal

pub new-requires : goal.new-requires
new-requires c =
    let deck = c.args.deck.now in let rates = c.deref.ensures.value ∙ c.in_ok-rates.ensures in let specs = c.deref-2.ensures.value ∙ c.in_ok-specs.ensures in
    subst (λ l. IsCuttable l c.deref-2.result.now) (sym rates)
    (subst (λ l. IsCuttable (rates_in deck) l) (sym specs) (deck_cuttable deck c.args.edition c.shows_well_made.ensures.made c.shows_well_made.ensures.limits c.requires))
