use Rattle.std.proofs.Common.{◌≡◌, ◌+◌, ◌<◌, ◌∙◌, length, sym, ap, subst, arith}
use Rattle.std.proofs.lemmas.List.{with_items_is}
use Rattle.air_history.specs.Histories.{ItemsFit, starts}
use Rattle.air_model.specs.Decks.{Deck, values_in}
use Rattle.control_matrix.specs.declared.board.Board.{Board}
use Rattle.scripts.specs.Private.RunSteps.{CountsScripted}
use Rattle.air_sender.proofs.AiredLemmas.{values_kept}
use Rattle.air_sender.proofs.RunLoops.{event_in, few_starts, next_fits}
use Rattle.scripts.proofs.piece_runs.PieceRun.run_event.Goals as goal

pub apply-requires-clause-fits : goal.apply-requires-clause-fits
apply-requires-clause-fits c =
    let deck = c.args.planned.now in
    let s = c.args.self.now in
    let event = c.in_ok-event.ensures ∙ ap (λ (d : Deck). event_in d c.len-k.result) c.deck-deck.ensures.told in
    let below : c.len-k.result < length deck.script = omega (arith, c.len-k.ensures, s.events.ok.0, c.requires.more) in
    subst (λ n. ItemsFit n c.in_ok-event.event) (sym (values_kept deck s.board s.events.items c.requires.kept.stepped))
    (next_fits deck c.len-k.result c.in_ok-event.event c.deck-deck.ensures.made below event)

pub apply-requires-clause-room : goal.apply-requires-clause-room
apply-requires-clause-room c =
    let s = c.args.self.now in
    let cycle : s.board.cycle ≡ starts s.events.items = ap (λ (b : Board). b.cycle) c.requires.kept.stepped in
    let few = few_starts c.args.planned.now (length s.events.items) s.events.items c.requires.kept.begun in
    let script = c.deck-deck.ensures.limits.script in
    omega (arith, cycle, few, c.requires.more, script)

pub returns-clause-event : goal.returns-clause-event
returns-clause-event c =
    let at : c.len-k.result ≡ length c.args.self.now.events.items = omega (arith, c.len-k.ensures, c.args.self.now.events.ok.0) in
    c.in_ok-event.ensures ∙ ap (λ (d : Deck). event_in d c.len-k.result) c.deck-deck.ensures.told ∙ ap (event_in c.args.planned.now) at

pub returns-clause-board : goal.returns-clause-board
returns-clause-board c = c.apply.ensures.followed (values_in c.args.planned.now) c.args.self.now.events.items c.requires.kept.stepped

pub returns-clause-updaters : goal.returns-clause-updaters
returns-clause-updaters c =
    let s = c.args.self.now in
    let long : length c.count_part.new.made ≡ s.made.len = c.count_part.auto.made ∙ c.deref_mut.ensures.len in
    ap length (with_items_is s.made c.count_part.new.made long) ∙ c.count_part.auto.made ∙ ap length c.deref_mut.ensures.value ∙ c.requires.kept.updaters

pub returns-clause-made : goal.returns-clause-made
returns-clause-made c =
    let deck = c.args.planned.now in
    let s = c.args.self.now in
    let at : c.len-k.result ≡ length s.events.items = omega (arith, c.len-k.ensures, s.events.ok.0) in
    let counts = subst (λ (d : Deck). CountsScripted d (c.len-k.result + 1) c.count_part.new.made) c.deck-deck.ensures.told c.count_part.ensures in
    let long : length c.count_part.new.made ≡ s.made.len = c.count_part.auto.made ∙ c.deref_mut.ensures.len in
    subst (CountsScripted deck (length s.events.items + 1)) (sym (with_items_is s.made c.count_part.new.made long)) (subst (λ k. CountsScripted deck (k + 1) c.count_part.new.made) at counts)
