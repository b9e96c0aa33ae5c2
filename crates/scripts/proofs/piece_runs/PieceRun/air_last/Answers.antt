use Rattle.std.proofs.Common.{◌≡◌, ◌++◌, ◌∙◌, List, sym, subst}
use Rattle.std.specs.Prelude.{OnOk}
use Rattle.air_history.specs.declared.histories.Event.{Event}
use Rattle.air_sender.specs.AiredBytes.{aired_bytes}
use Rattle.air_sender.specs.TapeMasts.{told_by_tape}
use Rattle.scripts.proofs.HeardLemmas.{commit_ran, start_ran}
use Rattle.scripts.proofs.piece_runs.PieceRun.air_last.Goals as goal

pub returns-then-not-started-clause-aired : goal.returns-then-not-started-clause-aired
returns-then-not-started-clause-aired c = λ before sent ran so_far.
    sym (commit_ran c.args.planned.now before c.args.started c.args.self.now ran c.if-not-started.true) ∙ so_far

pub returns-clause-aired : goal.returns-clause-aired
returns-clause-aired c = λ before sent ran so_far.
    let start = c.if-not-started.false in
    subst (λ (H : List Event). OnOk c.air_board.result (aired_bytes c.args.planned.now H ≡ sent ++ (told_by_tape c.air_board.new.piece).buckets)) (sym (start_ran c.args.planned.now before c.args.started c.args.self.now ran start))
    (c.air_board.ensures.aired before sent (ran.source start) so_far)
