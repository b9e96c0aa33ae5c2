use Rattle.std.proofs.Common.{◌≤◌, ◌<◌, ap, ◌∙◌, subst, sym, arith}
use Rattle.std.specs.List.{All, AllPairs}
use Rattle.chunk_program.specs.Editions.{Plans}
use Rattle.chunk_program.specs.declared.plans.PlanTable.{PlanTable}
use Rattle.chunk_program.proofs.EditionSteps.{up_to_told}
use Rattle.chunk_program.proofs.plans.Plans.cycles_up_to.Goals as goal

pub returns-in-Some-clause-told : goal.returns-in-Some-clause-told
returns-in-Some-clause-told c =
    let found = c.in-Some.ensures.lookup.3 in
    let own = c.deref-2.ensures.value ∙ ap (λ (t : PlanTable). t.cycles.items) c.deref.ensures in
    let same = own ∙ ap (λ (p : Plans). p.replans) c.self.view_is in
    let some = subst (All (λ at. 1 ≤ at)) (sym own) c.self.invariant.from_one c.args.edition 0 found.0 in
    up_to_told c.args.self.now c.deref-2.result.now c.args.edition c.in-Some.next.now c.args.cycles c.min.result same (subst (λ (p : Plans). AllPairs (λ a b. a < b) p.replans) c.self.view_is c.self.invariant.rising) found.0 (found.1 0) (let is = found.1 0 in omega arith) c.min.ensures
