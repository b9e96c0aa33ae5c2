use Rattle.std.proofs.Common.{List, sym, subst}
use Rattle.std.specs.Prelude.{IfOk}
use Rattle.air_history.specs.declared.histories.Event.{Event}
use Rattle.air_sender.specs.AiredBytes.{aired_bytes}
use Rattle.air_sender.proofs.TapeLemmas.{script_airs}
use Rattle.listeners.specs.Hearings.{AreHearing}
use Rattle.scripts.proofs.HeardLemmas.{can_hear, commit_ran, start_ran}
use Rattle.scripts.proofs.piece_runs.PieceRun.hear_last.Goals as goal

pub returns-then-not-started-clause-heard : goal.returns-then-not-started-clause-heard
returns-then-not-started-clause-heard c = λ before ran heard.
    subst (λ rs. AreHearing c.args.planned.now rs c.args.hearers) (commit_ran c.args.planned.now before c.args.started c.args.self.now ran c.if-not-started.true) heard

pub hear_board-requires-clause-source : goal.hear_board-requires-clause-source
hear_board-requires-clause-source c =
    let deck = c.args.planned.now in
    let plan = c.shows_planned.ensures in
    let before = c.requires.heard.0 in
    let ran = c.requires.heard.1 in
    let start = c.if-not-started.false in
    (before, ran.source start, can_hear deck before c.args.started c.args.self.now ran c.args.hearers start (script_airs deck plan.made plan.limits.script plan.short) c.requires.few c.requires.heard.2)

pub returns-clause-heard : goal.returns-clause-heard
returns-clause-heard c = λ before ran heard.
    let deck = c.args.planned.now in
    let plan = c.shows_planned.ensures in
    let start = c.if-not-started.false in
    subst (λ (H : List Event). IfOk c.hear_board.result (AreHearing deck (aired_bytes deck H))) (sym (start_ran deck before c.args.started c.args.self.now ran start))
    (c.hear_board.ensures.heard before (ran.source start)
    (can_hear deck before c.args.started c.args.self.now ran c.args.hearers start (script_airs deck plan.made plan.limits.script plan.short) c.requires.few heard))
