use Rattle.air_cli.specs.Split.{split_meaning}
use Rattle.air_cli.proofs.EndLemmas.{answers_ended, leaves_ended}
use Rattle.air_cli.proofs.SplitLemmas.{split_facts}
use Rattle.air_cli.proofs.quiet.give_split.Goals as goal

pub returns-clause-answers : goal.returns-clause-answers
returns-clause-answers g c =
    let S = g.S.Shelf in
    let deck = c.args.deck.now in
    answers_ended (split_meaning deck) (split_facts deck).sound c.split-made.result (S.state c.args.shelf.now) (S.state c.split-made.new.shelf) (S.state c.give_or_refuse.new.shelf) c.give_or_refuse.result
    c.split-made.ensures.made c.split-made.ensures.unmade c.split-made.ensures.reads c.give_or_refuse.ensures

pub returns-clause-leaves : goal.returns-clause-leaves
returns-clause-leaves g c =
    let S = g.S.Shelf in
    leaves_ended (split_meaning c.args.deck.now) c.split-made.result (S.state c.args.shelf.now) (S.state c.split-made.new.shelf) (S.state c.give_or_refuse.new.shelf) c.give_or_refuse.result
    c.split-made.ensures.reads c.give_or_refuse.ensures
