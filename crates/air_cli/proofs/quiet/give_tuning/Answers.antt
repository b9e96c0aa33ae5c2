use Rattle.air_cli.specs.Tune.{tune_meaning}
use Rattle.air_cli.proofs.EndLemmas.{answers_ended, leaves_ended}
use Rattle.air_cli.proofs.TuneLemmas.{tune_facts}
use Rattle.air_cli.proofs.quiet.give_tuning.Goals as goal

pub returns-clause-answers : goal.returns-clause-answers
returns-clause-answers g c =
    let S = g.S.Shelf in
    let deck = c.args.deck.now in
    let tape = c.args.tape.now in
    answers_ended (tune_meaning deck tape) (tune_facts deck tape).sound c.tune-made.result (S.state c.args.shelf.now) (S.state c.tune-made.new.shelf) (S.state c.give_or_refuse.new.shelf) c.give_or_refuse.result
    c.tune-made.ensures.made c.tune-made.ensures.unmade c.tune-made.ensures.reads c.give_or_refuse.ensures

pub returns-clause-leaves : goal.returns-clause-leaves
returns-clause-leaves g c =
    let S = g.S.Shelf in
    leaves_ended (tune_meaning c.args.deck.now c.args.tape.now) c.tune-made.result (S.state c.args.shelf.now) (S.state c.tune-made.new.shelf) (S.state c.give_or_refuse.new.shelf) c.give_or_refuse.result
    c.tune-made.ensures.reads c.give_or_refuse.ensures
