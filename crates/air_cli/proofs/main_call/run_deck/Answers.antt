use Rattle.air_cli.specs.Run.{run_meaning}
use Rattle.air_cli.proofs.EndLemmas.{answers_ended, leaves_ended}
use Rattle.air_cli.proofs.RunMeaningLemmas.{run_sound}
use Rattle.air_cli.proofs.main_call.run_deck.Goals as goal

pub returns-clause-answers : goal.returns-clause-answers
returns-clause-answers g c =
    let S = g.S.Shelf in
    let tape = c.args.tape.now in
    answers_ended (run_meaning c.args.deck.now tape) (run_sound c.args.deck.now tape) c.run-made.result (S.state c.args.shelf.now) (S.state c.run-made.new.shelf) (S.state c.give_or_refuse.new.shelf)
    c.give_or_refuse.result (c.run-made.ensures.made tape) (c.run-made.ensures.unmade tape) (c.run-made.ensures.reads tape) c.give_or_refuse.ensures

pub returns-clause-leaves : goal.returns-clause-leaves
returns-clause-leaves g c =
    let S = g.S.Shelf in
    let tape = c.args.tape.now in
    leaves_ended (run_meaning c.args.deck.now tape) c.run-made.result (S.state c.args.shelf.now) (S.state c.run-made.new.shelf) (S.state c.give_or_refuse.new.shelf) c.give_or_refuse.result
    (c.run-made.ensures.reads tape) c.give_or_refuse.ensures
