use Rattle.std.proofs.Common.{map, string_bytes, subst}
use Rattle.air_cli.specs.Answers.{QuietAnswers}
use Rattle.air_cli.specs.Commands.{quiet_meaning}
use Rattle.air_cli.specs.Words.{asked_of}
use Rattle.air_cli.proofs.HeadlineLemmas.{quiet_headline}
use Rattle.air_cli.proofs.TopLemmas.{quiet_complete}
use Rattle.air_cli.proofs.quiet.air_quiet.Goals as goal

pub returns-in-Some-clause-complete : goal.returns-in-Some-clause-complete
returns-in-Some-clause-complete g c =
    let S = g.S.Shelf in
    let before = S.state c.args.shelf.now in
    let now = S.state c.run.new.shelf in
    quiet_complete (asked_of (map (λ w. string_bytes w) c.args.words.now)) before now c.run.result
    (subst (λ asked. QuietAnswers (quiet_meaning asked) before now c.run.result) c.in-Some.ensures.asked c.run.ensures.answers)

pub returns-in-None-clause-complete : goal.returns-in-None-clause-complete
returns-in-None-clause-complete g c =
    let S = g.S.Shelf in
    let before = S.state c.args.shelf.now in
    let now = S.state c.refuse_words.new.shelf in
    quiet_complete (asked_of (map (λ w. string_bytes w) c.args.words.now)) before now c.refuse_words.result
    (subst (λ asked. QuietAnswers (quiet_meaning asked) before now c.refuse_words.result) c.in-None.ensures.asked c.refuse_words.ensures.answers)

pub returns-in-Some-clause-headline : goal.returns-in-Some-clause-headline
returns-in-Some-clause-headline g c =
    let S = g.S.Shelf in
    let before = S.state c.args.shelf.now in
    let now = S.state c.run.new.shelf in
    quiet_headline (asked_of (map (λ w. string_bytes w) c.args.words.now)) before now c.run.result
    (subst (λ asked. QuietAnswers (quiet_meaning asked) before now c.run.result) c.in-Some.ensures.asked c.run.ensures.answers)

pub returns-in-None-clause-headline : goal.returns-in-None-clause-headline
returns-in-None-clause-headline g c =
    let S = g.S.Shelf in
    let before = S.state c.args.shelf.now in
    let now = S.state c.refuse_words.new.shelf in
    quiet_headline (asked_of (map (λ w. string_bytes w) c.args.words.now)) before now c.refuse_words.result
    (subst (λ asked. QuietAnswers (quiet_meaning asked) before now c.refuse_words.result) c.in-None.ensures.asked c.refuse_words.ensures.answers)
