use Rattle.std.proofs.Common.{length, ap, subst, ◌∙◌, arith}
use Rattle.air_model.specs.Decks.{IsDeck}
use Rattle.air_model.specs.Programs.{program}
use Rattle.item_catalog.specs.DeckLimits.{WithinLimits}
use Rattle.chunk_program.specs.Editions.{EditionDisks, Plans, plans_in}
use Rattle.chunk_program.proofs.CutLemmas.{deck_items}
use Rattle.chunk_program.proofs.EditionSteps.{count_programs}
use Rattle.chunk_program.proofs.planned.PlannedRef.program.Goals as goal

pub program-program-requires : goal.program-program-requires
program-program-requires c =
    omega (arith, count_programs c.args.self.now, ap (λ (p : Plans). length p.programs) (c.self.invariant ∙ ap plans_in c.self.view_is))

pub returns-clause-told : goal.returns-clause-told
returns-clause-told c = c.program-program.ensures.deck c.args.self.now (c.self.invariant ∙ ap plans_in c.self.view_is)

pub returns-clause-items : goal.returns-clause-items
returns-clause-items c =
    deck_items c.args.self.now c.args.edition (subst IsDeck c.self.view_is c.shows_well_made.ensures.made) (subst WithinLimits c.self.view_is c.shows_well_made.ensures.limits) c.requires

pub returns-clause-some : goal.returns-clause-some
returns-clause-some c =
    let same = c.program-program.ensures.deck c.args.self.now (c.self.invariant ∙ ap plans_in c.self.view_is) in
    omega (arith, c.slots-slots.ensures.some, c.slots-slots.ensures.counted, ap (λ (p : EditionDisks). length (program p.disks)) same)

pub returns-clause-short : goal.returns-clause-short
returns-clause-short c =
    let same = c.program-program.ensures.deck c.args.self.now (c.self.invariant ∙ ap plans_in c.self.view_is) in
    omega (arith, c.slots-slots.ensures.few, c.slots-slots.ensures.counted, ap (λ (p : EditionDisks). length (program p.disks)) same)
