use Rattle.air_cli.specs.Plan.{plan_meaning}
use Rattle.air_cli.proofs.EndLemmas.{answers_ended, leaves_ended}
use Rattle.air_cli.proofs.PlanMeaningLemmas.{plan_facts}
use Rattle.air_cli.proofs.quiet.give_plan.Goals as goal

pub returns-clause-answers : goal.returns-clause-answers
returns-clause-answers g c =
    let S = g.S.Shelf in
    let deck = c.args.deck.now in
    answers_ended (plan_meaning deck) (plan_facts deck).sound c.plan-made.result (S.state c.args.shelf.now) (S.state c.plan-made.new.shelf) (S.state c.give_or_refuse.new.shelf) c.give_or_refuse.result
    c.plan-made.ensures.made c.plan-made.ensures.unmade c.plan-made.ensures.reads c.give_or_refuse.ensures

pub returns-clause-leaves : goal.returns-clause-leaves
returns-clause-leaves g c =
    let S = g.S.Shelf in
    leaves_ended (plan_meaning c.args.deck.now) c.plan-made.result (S.state c.args.shelf.now) (S.state c.plan-made.new.shelf) (S.state c.give_or_refuse.new.shelf) c.give_or_refuse.result
    c.plan-made.ensures.reads c.give_or_refuse.ensures
