use Rattle.std.proofs.Common.{map, string_bytes, rules}
use Rattle.air_cli.specs.Words.{asked_of}
use Rattle.air_cli.proofs.HeadlineLemmas.{words_headline}
use Rattle.air_cli.proofs.TopLemmas.{words_complete}
use Rattle.air_cli.proofs.main_call.air_main.Goals as goal

pub returns-in-Some-Run-clause-complete : goal.returns-in-Some-Run-clause-complete
returns-in-Some-Run-clause-complete g c =
    let S = g.S.Shelf in
    let mast = g.M.Mast.state c.args.mast.now in
    let ear = g.E.Ear.state c.args.ear.now in
    words_complete (asked_of (map (λ w. string_bytes w) c.args.words.now)) mast mast ear ear (S.state c.args.shelf.now) (S.state c.run_deck.new.shelf) c.run_deck.result
    (rw (← c.in-Some-Run.ensures.asked, c.in-Some-Run.field-0-is) c.run_deck.ensures.answers)

pub returns-in-Some-Cast-clause-complete : goal.returns-in-Some-Cast-clause-complete
returns-in-Some-Cast-clause-complete g c =
    let S = g.S.Shelf in
    let M = g.M.Mast in
    let ear = g.E.Ear.state c.args.ear.now in
    words_complete (asked_of (map (λ w. string_bytes w) c.args.words.now)) (M.state c.args.mast.now) (M.state c.cast_deck.new.mast) ear ear (S.state c.args.shelf.now) (S.state c.cast_deck.new.shelf)
    c.cast_deck.result (rw (← c.in-Some-Cast.ensures.asked, c.in-Some-Cast.field-0-is) c.cast_deck.ensures.answers)

pub returns-in-Some-Listen-clause-complete : goal.returns-in-Some-Listen-clause-complete
returns-in-Some-Listen-clause-complete g c =
    let S = g.S.Shelf in
    let E = g.E.Ear in
    let mast = g.M.Mast.state c.args.mast.now in
    words_complete (asked_of (map (λ w. string_bytes w) c.args.words.now)) mast mast (E.state c.args.ear.now) (E.state c.listen_deck.new.ear) (S.state c.args.shelf.now) (S.state c.listen_deck.new.shelf)
    c.listen_deck.result (rw (← c.in-Some-Listen.ensures.asked, c.in-Some-Listen.field-0-is) c.listen_deck.ensures.answers)

pub returns-in_default-clause-complete : goal.returns-in_default-clause-complete
returns-in_default-clause-complete g c =
    let S = g.S.Shelf in
    let mast = g.M.Mast.state c.args.mast.now in
    let ear = g.E.Ear.state c.args.ear.now in
    words_complete (asked_of (map (λ w. string_bytes w) c.args.words.now)) mast mast ear ear (S.state c.args.shelf.now) (S.state c.air_quiet.new.shelf) c.air_quiet.result (search rules)

pub returns-in-Some-Run-clause-headline : goal.returns-in-Some-Run-clause-headline
returns-in-Some-Run-clause-headline g c =
    let S = g.S.Shelf in
    let mast = g.M.Mast.state c.args.mast.now in
    let ear = g.E.Ear.state c.args.ear.now in
    words_headline (asked_of (map (λ w. string_bytes w) c.args.words.now)) mast mast ear ear (S.state c.args.shelf.now) (S.state c.run_deck.new.shelf) c.run_deck.result
    (rw (← c.in-Some-Run.ensures.asked, c.in-Some-Run.field-0-is) c.run_deck.ensures.answers)

pub returns-in-Some-Cast-clause-headline : goal.returns-in-Some-Cast-clause-headline
returns-in-Some-Cast-clause-headline g c =
    let S = g.S.Shelf in
    let M = g.M.Mast in
    let ear = g.E.Ear.state c.args.ear.now in
    words_headline (asked_of (map (λ w. string_bytes w) c.args.words.now)) (M.state c.args.mast.now) (M.state c.cast_deck.new.mast) ear ear (S.state c.args.shelf.now) (S.state c.cast_deck.new.shelf)
    c.cast_deck.result (rw (← c.in-Some-Cast.ensures.asked, c.in-Some-Cast.field-0-is) c.cast_deck.ensures.answers)

pub returns-in-Some-Listen-clause-headline : goal.returns-in-Some-Listen-clause-headline
returns-in-Some-Listen-clause-headline g c =
    let S = g.S.Shelf in
    let E = g.E.Ear in
    let mast = g.M.Mast.state c.args.mast.now in
    words_headline (asked_of (map (λ w. string_bytes w) c.args.words.now)) mast mast (E.state c.args.ear.now) (E.state c.listen_deck.new.ear) (S.state c.args.shelf.now) (S.state c.listen_deck.new.shelf)
    c.listen_deck.result (rw (← c.in-Some-Listen.ensures.asked, c.in-Some-Listen.field-0-is) c.listen_deck.ensures.answers)

pub returns-in_default-clause-headline : goal.returns-in_default-clause-headline
returns-in_default-clause-headline g c =
    let S = g.S.Shelf in
    let mast = g.M.Mast.state c.args.mast.now in
    let ear = g.E.Ear.state c.args.ear.now in
    words_headline (asked_of (map (λ w. string_bytes w) c.args.words.now)) mast mast ear ear (S.state c.args.shelf.now) (S.state c.air_quiet.new.shelf) c.air_quiet.result (search rules)
