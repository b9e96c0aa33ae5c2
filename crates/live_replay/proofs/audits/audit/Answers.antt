use Rattle.std.proofs.Common.{All, length, sym, ap, subst, ◌∙◌}
use Rattle.air_history.specs.Histories.{ItemsFit, starts}
use Rattle.air_model.specs.Reports.{Report}
use Rattle.air_report.proofs.PrintedGrammar.{grammar_of}
use Rattle.live_replay.specs.Private.Lines.{LineFits}
use Rattle.live_replay.specs.Private.Replays.{DeckAndHistory}
use Rattle.live_replay.proofs.GrammarLemmas.{grammar_fits}
use Rattle.live_replay.proofs.ReplayLemmas.{legal_fits}
use Rattle.live_replay.proofs.audits.audit.Goals as goal

pub new-requires : goal.new-requires
new-requires c =
    let deck = c.args.deck.now in
    subst (All (ItemsFit (length deck.items))) (sym (ap (λ (r : Report). r.history) c.lines.view_is))
    (legal_fits deck c.args.report.now.report.history c.shows_well_made.ensures.made c.requires.kept.legal)

pub add_verdicts-requires-clause-fits : goal.add_verdicts-requires-clause-fits
add_verdicts-requires-clause-fits c =
    let report = c.args.report.now.report in
    let same = c.deref.ensures.value ∙ ap (λ (r : Report). r.verdicts) c.lines.view_is in
    let Fits : DeckAndHistory → Type 0 = λ t. All (LineFits (length t.deck.items) (starts t.history)) report.verdicts in
    let made : Report → DeckAndHistory = λ r. record { deck = c.args.deck.now; history = r.history } in
    subst (All (LineFits (length c.in_ok-replay.replay.deck.items) (starts c.in_ok-replay.replay.history))) (sym same)
    (subst Fits (sym (c.in_ok-replay.ensures ∙ ap made c.lines.view_is)) (grammar_fits c.args.deck.now report c.shows_well_made.ensures.made (grammar_of c.args.deck.now report c.requires.kept.legal c.requires.kept.known c.requires.kept.begun)))
