use Rattle.std.proofs.Common.{List, length, get_or, ap, ◌∙◌}
use Rattle.air_model.specs.Disks.{all_items}
use Rattle.chunk_program.specs.Editions.{EditionDisks, Plans}
use Rattle.chunk_program.specs.declared.plans.PlanTable.{PlanTable}
use Rattle.chunk_program.proofs.EditionSteps.{program_at}
use Rattle.chunk_program.proofs.plans.Plans.program.Goals as goal

pub returns-clause-deck : goal.returns-clause-deck
returns-clause-deck c = λ deck are.
    program_at deck c.args.self.now _ c.args.edition c.index.result.now are (ap (λ (t : PlanTable). t.programs.items) c.deref.ensures ∙ ap (λ (p : Plans). p.programs) c.self.view_is) c.requires c.index.ensures

pub returns-clause-items : goal.returns-clause-items
returns-clause-items c = λ n have.
    let same = ap (λ (t : PlanTable). t.programs.items) c.deref.ensures ∙ ap (λ (p : Plans). p.programs) c.self.view_is in
    let p = c.index.result.now in
    let e = c.args.edition in
    let is = c.index.ensures ∙ ap (λ (l : List EditionDisks). get_or l e p) same in
    ap (λ (p : EditionDisks). length (all_items p.disks)) is ∙ have c.args.edition p c.requires
