use Rattle.std.proofs.Common.{◌∙◌, ap, length, arith}
use Rattle.std.proofs.lemmas.Bool.{eq-eqb, eqb-true}
use Rattle.air_model.specs.Decks.{Deck}
use Rattle.air_sender.proofs.RunLoops.{event_all, script_length}
use Rattle.scripts.proofs.piece_runs.PieceRun.is_done.Goals as goal

pub returns-clause-done : goal.returns-clause-done
returns-clause-done c =
    let deck = c.args.planned.now in
    let events = c.args.self.now.events in
    let told = c.script_len.ensures.told ∙ ap (λ (d : Deck). length d.script) c.deck.ensures.told in (
      λ e. event_all deck (length events.items) events.items (omega (arith, eqb-true c.len.result c.script_len.result e, c.len.ensures, told, events.ok.0)) c.requires.begun,
      λ e. eq-eqb c.len.result c.script_len.result (omega (arith, ap length e ∙ script_length deck, c.len.ensures, told, events.ok.0)),
    )
