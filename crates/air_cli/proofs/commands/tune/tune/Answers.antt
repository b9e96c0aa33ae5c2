use Rattle.std.proofs.Common.{refl, inl, inr, subst, sym, rules}
use Rattle.std.specs.Io.KnownBytes.{IsAtEnd}
use Rattle.air_base.specs.declared.limits.TheConstants.{MOST_TAPE_BYTES}
use Rattle.chunk_program.specs.Plans.{AreShort}
use Rattle.air_cli.specs.NamedDecks.{HasDeck}
use Rattle.air_cli.specs.Private.BeforeDelivery.{IsUnmade}
use Rattle.air_cli.specs.Tune.{TuneGives, tune_meaning}
use Rattle.air_cli.proofs.ReadLemmas.{end_still}
use Rattle.air_cli.proofs.CountLemmas.{kept_twice}
use Rattle.air_cli.proofs.TuneLemmas.{of_heard, unheard_since, unheard_tune, unrunnable_tune}
use Rattle.air_cli.proofs.commands.tune.tune.Goals as goal

pub returns-in_err-planned-clause-unmade : goal.returns-in_err-planned-clause-unmade
returns-in_err-planned-clause-unmade g c =
    let S = g.S.Shelf in
    let before = S.state c.args.shelf.now in
    let now = S.state c.read_runnable_deck.new.shelf in
    let h : IsUnmade (tune_meaning c.args.name.now c.args.tape.now) before now c.in_err-planned.field-0.0 = record {
      cause = λ some. unrunnable_tune c.args.name.now c.args.tape.now before now c.in_err-planned.field-0.0 c.in_err-planned.ensures.refused;
      kept = c.in_err-planned.ensures.reads.kept;
    } in
    search (rules, h)

pub returns-in_err-text-clause-unmade : goal.returns-in_err-text-clause-unmade
returns-in_err-text-clause-unmade g c =
    let S = g.S.Shelf in
    let tape = c.args.tape.now in
    let before = S.state c.args.shelf.now in
    let mid = S.state c.read_runnable_deck.new.shelf in
    let now = S.state c.tape_report.new.shelf in
    let can : HasDeck c.args.name.now before AreShort = (c.in_ok-planned.planned, c.in_ok-planned.ensures.deck, c.in_ok-planned.ensures.made, c.in_ok-planned.ensures.runnable) in
    let unheard = unheard_since tape MOST_TAPE_BYTES before mid now c.in_err-text.field-0.0 (c.read_runnable_deck.ensures.reads.rest.files tape) c.in_ok-planned.ensures.reads.calm c.in_err-text.ensures.refused in
    let h : IsUnmade (tune_meaning c.args.name.now tape) before now c.in_err-text.field-0.0 = record {
      cause = λ some. unheard_tune c.args.name.now tape before now c.in_err-text.field-0.0 can unheard;
      kept = λ read. kept_twice before.faults mid.faults now.faults c.in_ok-planned.ensures.reads.calm (c.in_err-text.ensures.reads.kept read);
    } in
    search (rules, h)

pub returns-clause-made : goal.returns-clause-made
unfolding TuneGives
returns-clause-made g c =
    let S = g.S.Shelf in
    let tape = c.args.tape.now in
    let before = S.state c.args.shelf.now in
    let mid = S.state c.read_runnable_deck.new.shelf in
    let now = S.state c.tape_report.new.shelf in
    let deck = c.in_ok-planned.planned in
    let told = of_heard tape before mid deck c.in_ok-text.text.items c.in_ok-text.ensures.heard (c.read_runnable_deck.ensures.reads.rest.files tape) c.shows_tape_truth.ensures in
    let deck_end = end_still c.args.name.now tape mid now c.tape_report.ensures.reads.rest c.in_ok-planned.ensures.reads.end c.in_ok-text.ensures.reads.end in
    record {
      gives = (refl, (deck, c.in_ok-planned.ensures.deck, c.in_ok-planned.ensures.made, (c.in_ok-planned.ensures.runnable, told)));
      read = λ name input. elim input [
        | inl same ↦ subst (λ input. IsAtEnd (now.told.left input)) (sym same) deck_end
        | inr same ↦ subst (λ input. IsAtEnd (now.told.left input)) (sym same) c.in_ok-text.ensures.reads.end
      ];
      calm = kept_twice before.faults mid.faults now.faults c.in_ok-planned.ensures.reads.calm c.in_ok-text.ensures.reads.calm;
    }
