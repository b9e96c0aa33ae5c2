use Rattle.air_cli.specs.Listen.{listen_meaning}
use Rattle.air_cli.proofs.EndLemmas.{air_ended, answers_ended, leaves_ended}
use Rattle.air_cli.proofs.ListenLemmas.{listen_sound}
use Rattle.air_cli.proofs.main_call.listen_deck.Goals as goal

pub returns-clause-answers : goal.returns-clause-answers
returns-clause-answers g c =
    let S = g.S.Shelf in
    let old = g.E.Ear.state c.args.ear.now in
    let new = g.E.Ear.state c.listen-made.new.ear in
    answers_ended (listen_meaning c.args.deck.now c.args.port old new) (listen_sound c.args.deck.now c.args.port old new) c.listen-made.result (S.state c.args.shelf.now) (S.state c.listen-made.new.shelf)
    (S.state c.give_or_refuse.new.shelf) c.give_or_refuse.result c.listen-made.ensures.made c.listen-made.ensures.unmade c.listen-made.ensures.reads c.give_or_refuse.ensures

pub returns-clause-leaves : goal.returns-clause-leaves
returns-clause-leaves g c =
    let S = g.S.Shelf in
    let meaning = listen_meaning c.args.deck.now c.args.port (g.E.Ear.state c.args.ear.now) (g.E.Ear.state c.listen-made.new.ear) in
    leaves_ended meaning c.listen-made.result (S.state c.args.shelf.now) (S.state c.listen-made.new.shelf) (S.state c.give_or_refuse.new.shelf) c.give_or_refuse.result c.listen-made.ensures.reads
    c.give_or_refuse.ensures

pub returns-clause-first : goal.returns-clause-first
returns-clause-first g c =
    let S = g.S.Shelf in
    air_ended _ c.listen-made.result (S.state c.listen-made.new.shelf) (S.state c.give_or_refuse.new.shelf) c.give_or_refuse.result c.listen-made.ensures.first c.give_or_refuse.ensures
