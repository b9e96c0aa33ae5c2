use Rattle.std.proofs.Common.{subst}
use Rattle.air_base.specs.Numbers.{number_of}
use Rattle.deck_runs.specs.Casts.{FailsFirst}
use Rattle.air_cli.specs.OnAir.{StopsAtFailure}
use Rattle.air_cli.specs.Words.{asked_of}
use Rattle.command_pins.proofs.FailureLemmas.{told_by_calm_mast}
use Rattle.command_pins.proofs.failure_pins.sent_on_under_status_10.Goals as goal

pub returns : goal.returns
unfolding number_of
returns g c = λ at is.
    let M = g.M.Mast in
    let E = g.E.Ear in
    let first : FailsFirst g.M.Mast.state c.args.mast.now c.air_main.new.mast =
    subst (λ words. StopsAtFailure M.state E.state (asked_of words) c.args.mast.now c.air_main.new.mast c.args.ear.now c.air_main.new.ear) c.requires.words (c.air_main.ensures.first at is) in
    told_by_calm_mast g.M.Mast.state c.args.mast.now c.air_main.new.mast c.requires.faults first
