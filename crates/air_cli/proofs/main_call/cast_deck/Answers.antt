use Rattle.air_cli.specs.Cast.{cast_meaning}
use Rattle.air_cli.proofs.EndLemmas.{air_ended, answers_ended, leaves_ended}
use Rattle.air_cli.proofs.CastLemmas.{cast_sound}
use Rattle.air_cli.proofs.main_call.cast_deck.Goals as goal

pub returns-clause-answers : goal.returns-clause-answers
returns-clause-answers g c =
    let S = g.S.Shelf in
    let old = g.M.Mast.state c.args.mast.now in
    let new = g.M.Mast.state c.cast-made.new.mast in
    answers_ended (cast_meaning c.args.deck.now c.args.port old new) (cast_sound c.args.deck.now c.args.port old new) c.cast-made.result (S.state c.args.shelf.now) (S.state c.cast-made.new.shelf)
    (S.state c.give_or_refuse.new.shelf) c.give_or_refuse.result c.cast-made.ensures.made c.cast-made.ensures.unmade c.cast-made.ensures.reads c.give_or_refuse.ensures

pub returns-clause-leaves : goal.returns-clause-leaves
returns-clause-leaves g c =
    let S = g.S.Shelf in
    let meaning = cast_meaning c.args.deck.now c.args.port (g.M.Mast.state c.args.mast.now) (g.M.Mast.state c.cast-made.new.mast) in
    leaves_ended meaning c.cast-made.result (S.state c.args.shelf.now) (S.state c.cast-made.new.shelf) (S.state c.give_or_refuse.new.shelf) c.give_or_refuse.result c.cast-made.ensures.reads
    c.give_or_refuse.ensures

pub returns-clause-first : goal.returns-clause-first
returns-clause-first g c =
    let S = g.S.Shelf in
    air_ended _ c.cast-made.result (S.state c.cast-made.new.shelf) (S.state c.give_or_refuse.new.shelf) c.give_or_refuse.result c.cast-made.ensures.first c.give_or_refuse.ensures
