use Rattle.std.proofs.Common.{◌++◌, ◌∷◌, [], refl, sym, subst}
use Rattle.std.specs.Prelude.{IfOk}
use Rattle.air_history.specs.declared.histories.Event.{Event}
use Rattle.air_sender.specs.AiredBytes.{aired_bytes}
use Rattle.air_sender.proofs.AiredLemmas.{commit_aired, start_event}
use Rattle.listeners.specs.Hearings.{AreHearing}
use Rattle.listeners.proofs.HistoryLemmas.{start_follows, start_left}
use Rattle.listeners.proofs.histories.hear_event.Goals as goal

pub returns-then-not-is_start-clause-heard : goal.returns-then-not-is_start-clause-heard
returns-then-not-is_start-clause-heard c = λ G next.
    subst (λ rs. AreHearing c.args.planned.now rs c.args.hearers)
    (commit_aired c.args.planned.now G c.args.event.now (aired_bytes c.args.planned.now G) (sym c.if-not-is_start.ensures) refl) next.heard

pub fill_groups-requires-clause-stepped : goal.fill_groups-requires-clause-stepped
fill_groups-requires-clause-stepped c =
    (c.requires.next.0, start_left c.args.planned.now c.requires.next.0 c.args.event.now c.args.board.now c.args.hearers (sym c.if-not-is_start.ensures) c.requires.next.1)

pub hear_board-requires-clause-source : goal.hear_board-requires-clause-source
hear_board-requires-clause-source c =
    let G = c.requires.next.0 in
    let start = sym c.if-not-is_start.ensures in (
      G,
      c.fill_groups.ensures.source G (start_left c.args.planned.now G c.args.event.now c.args.board.now c.args.hearers start c.requires.next.1),
      start_follows c.args.planned.now G c.args.event.now c.args.board.now c.args.hearers start c.requires.next.1,
    )

pub returns-clause-heard : goal.returns-clause-heard
returns-clause-heard c = λ G next.
    let start = sym c.if-not-is_start.ensures in
    subst (λ (e : Event). IfOk c.hear_board.result (AreHearing c.args.planned.now (aired_bytes c.args.planned.now (G ++ e ∷ [])))) (sym (start_event c.args.event.now start))
    (c.hear_board.ensures.heard G (c.fill_groups.ensures.source G (start_left c.args.planned.now G c.args.event.now c.args.board.now c.args.hearers start next))
    (start_follows c.args.planned.now G c.args.event.now c.args.board.now c.args.hearers start next))
