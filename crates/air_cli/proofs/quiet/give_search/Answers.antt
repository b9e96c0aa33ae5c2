use Rattle.air_cli.specs.Seek.{seek_meaning}
use Rattle.air_cli.proofs.EndLemmas.{answers_ended, leaves_ended}
use Rattle.air_cli.proofs.SeekLemmas.{seek_facts}
use Rattle.air_cli.proofs.quiet.give_search.Goals as goal

pub returns-clause-answers : goal.returns-clause-answers
returns-clause-answers g c =
    let S = g.S.Shelf in
    let meaning = seek_meaning c.args.tape.now c.args.item c.args.from in
    answers_ended meaning (seek_facts c.args.tape.now c.args.item c.args.from).sound c.seek-made.result (S.state c.args.shelf.now) (S.state c.seek-made.new.shelf) (S.state c.give_or_refuse.new.shelf)
    c.give_or_refuse.result c.seek-made.ensures.made c.seek-made.ensures.unmade c.seek-made.ensures.reads c.give_or_refuse.ensures

pub returns-clause-leaves : goal.returns-clause-leaves
returns-clause-leaves g c =
    let S = g.S.Shelf in
    leaves_ended (seek_meaning c.args.tape.now c.args.item c.args.from) c.seek-made.result (S.state c.args.shelf.now) (S.state c.seek-made.new.shelf) (S.state c.give_or_refuse.new.shelf) c.give_or_refuse.result
    c.seek-made.ensures.reads c.give_or_refuse.ensures
