use Rattle.std.proofs.Common.{◌≤◌, length, ap, subst, ◌∙◌}
use Rattle.std.specs.List.{All}
use Rattle.air_base.specs.declared.limits.TheConstants.{MOST_SLOTS}
use Rattle.air_model.specs.Decks.{IsDeck}
use Rattle.air_model.specs.Programs.{program}
use Rattle.item_catalog.specs.DeckLimits.{WithinLimits}
use Rattle.chunk_program.specs.Editions.{EditionDisks, Plans, plans_in}
use Rattle.chunk_program.proofs.EditionSteps.{have_items, short_editions}
use Rattle.chunk_program.proofs.planned.PlannedRef.plans.Goals as goal

pub returns-clause-items : goal.returns-clause-items
returns-clause-items c = have_items c.args.self.now (subst IsDeck c.self.view_is c.shows_well_made.ensures.made) (subst WithinLimits c.self.view_is c.shows_well_made.ensures.limits)

pub returns-clause-short : goal.returns-clause-short
returns-clause-short c =
    short_editions c.args.self.now
    (subst (λ (p : Plans). All (λ (p : EditionDisks). length (program p.disks) ≤ MOST_SLOTS) p.programs) (c.self.invariant ∙ ap plans_in c.self.view_is) c.shows_well_made-2.ensures)
