use Rattle.std.proofs.Common.{length, refl, subst, ap}
use Rattle.air_model.specs.Disks.{all_items}
use Rattle.chunk_program.specs.CutConditions.{AreDeckDisks}
use Rattle.chunk_program.proofs.PlaceSteps.{below_count}
use Rattle.chunk_program.proofs.ProgramLemmas.{carried_items}
use Rattle.chunk_program.specs.Editions.{EditionDisks}
use Rattle.chunk_program.proofs.programs.Program.shows_well_made.Goals as goal

pub returns-clause-airable : goal.returns-clause-airable
returns-clause-airable c = (subst AreDeckDisks (ap (λ (p : EditionDisks). p.disks) c.self.view_is) c.self.invariant.limits).airable

pub returns-clause-some : goal.returns-clause-some
returns-clause-some c = (subst AreDeckDisks (ap (λ (p : EditionDisks). p.disks) c.self.view_is) c.self.invariant.limits).some

pub returns-clause-few : goal.returns-clause-few
returns-clause-few c = (subst AreDeckDisks (ap (λ (p : EditionDisks). p.disks) c.self.view_is) c.self.invariant.limits).few

pub returns-clause-within : goal.returns-clause-within
returns-clause-within c =
    let disks = c.args.self.now.disks in below_count disks (length (all_items disks)) (subst AreDeckDisks (ap (λ (p : EditionDisks). p.disks) c.self.view_is) c.self.invariant.limits) refl

pub returns-clause-slots : goal.returns-clause-slots
returns-clause-slots c = carried_items c.args.self.now.disks (subst AreDeckDisks (ap (λ (p : EditionDisks). p.disks) c.self.view_is) c.self.invariant.limits)
