use Rattle.std.proofs.Common.{◌≡◌, ◌<◌, subst, sym, arith}
use Rattle.deck_runs.specs.Looks.{LookedTimes}
use Rattle.station.proofs.TurnLemmas.{refused}
use Rattle.deck_runs.proofs.LookLemmas.{looked_more, looked_none}
use Rattle.deck_runs.proofs.jobs.monitors.monitor_job.Goals as goal

pub loop-look-init : goal.loop-look-init
loop-look-init g c = looked_none c.args.monitor.now (subst (λ n. n < 18446744073709551616) c.looks-before.ensures c.looks-before.type_inv)

pub loop-look-preserved : goal.loop-look-preserved
loop-look-preserved g c = looked_more c.args.monitor.now c.loop-look.monitor c.look.new.self c.loop-look.look c.loop-look.invariant c.in_ok-look.ensures

pub returns-in_err-look-clause-looked : goal.returns-in_err-look-clause-looked
returns-in_err-look-clause-looked g c =
    refused _ _ c.from_residual.result c.from_residual.ensures.0 (c.loop-look.look, c.loop-look-test.true, subst (LookedTimes c.loop-look.look c.args.monitor.now) (sym c.in_err-look.ensures) c.loop-look.invariant)

pub returns-clause-looked : goal.returns-clause-looked
returns-clause-looked g c =
    let all : c.loop-look.look ≡ c.args.looks = omega arith in
    (subst (λ n. LookedTimes n c.args.monitor.now c.loop-look.monitor) all c.loop-look.invariant, c.line_of.ensures.line)
