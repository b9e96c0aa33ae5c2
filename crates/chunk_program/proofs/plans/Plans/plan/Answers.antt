use Rattle.std.proofs.Common.{length, ap, subst, sym, ◌∙◌}
use Rattle.chunk_program.specs.Editions.{HaveItems}
use Rattle.chunk_program.specs.PlansFields.{table_seen}
use Rattle.chunk_program.proofs.EditionSteps.{have_items, plans_are, plans_made}
use Rattle.chunk_program.proofs.plans.Plans.plan.Goals as goal

pub numbers-requires : goal.numbers-requires
numbers-requires c =
    let deck = c.args.deck.now in
    subst (HaveItems (length deck.items)) (sym (c.deref.ensures.value ∙ c.in_ok-programs.ensures.planned)) (have_items deck c.shows_well_made.ensures.made c.shows_well_made.ensures.limits)

pub invariant_of-result : goal.invariant_of-result
invariant_of-result c =
    let deck = c.args.deck.now in
    plans_made deck _ c.shows_well_made.ensures.made c.in_ok-programs.ensures.short (ap table_seen c.in_ok-table.ensures.ok
    ∙ plans_are deck c.in_ok-cycles.cycles.items c.in_ok-programs.programs.items c.deref.result.now c.in_ok-pix.pix.items c.in_ok-cycles.ensures c.in_ok-programs.ensures.planned c.deref.ensures.value c.in_ok-pix.ensures)

pub returns-clause-planned : goal.returns-clause-planned
returns-clause-planned c =
    ap table_seen c.in_ok-table.ensures.ok
    ∙ plans_are c.args.deck.now c.in_ok-cycles.cycles.items c.in_ok-programs.programs.items c.deref.result.now c.in_ok-pix.pix.items c.in_ok-cycles.ensures c.in_ok-programs.ensures.planned c.deref.ensures.value c.in_ok-pix.ensures
