use Rattle.std.proofs.Common.{rules, ◌≡◌, ◌∙◌, refl, sym, subst}
use Rattle.air_devices.specs.Counts.{Rose}
use Rattle.deck_runs.specs.declared.threads.RunFault.TheVariants as fault
use Rattle.deck_runs.specs.Casts.{IsCastAnswer}
use Rattle.deck_runs.proofs.CastLemmas.{all_cast, end_behind, none_cast, passed_on, run_cast, run_first}
use Rattle.deck_runs.proofs.casts.cast_run.Goals as goal

pub returns-then-is_err-clause-fault : goal.returns-then-is_err-clause-fault
returns-then-is_err-clause-fault g c =
    let state = g.M.Mast.state in
    (search rules, none_cast state c.args.planned.now c.args.mast.now c.aim.new.self c.requires.unsent c.aim.ensures.kept)

pub returns-in_err-run-clause-fault : goal.returns-in_err-run-clause-fault
returns-in_err-run-clause-fault g c =
    let state = g.M.Mast.state in
    let deck = c.args.planned.now in
    let old = c.args.mast.now in
    let aimed = c.aim.new.self in
    let new = c.run_threads.new.mast in
    let e = c.in_err-run.field-0.0 in
    let calm : (state aimed).faults ≡ (state old).faults = search rules in
    let h : IsCastAnswer deck (state old) (state new) e = run_cast state deck old aimed new e c.requires.unsent c.aim.ensures.kept calm c.in_err-run.ensures.fault in
    search (rules, h)

pub returns-in_err-send_end-clause-fault : goal.returns-in_err-send_end-clause-fault
returns-in_err-send_end-clause-fault g c =
    let state = g.M.Mast.state in
    let deck = c.args.planned.now in
    let old = state c.args.mast.now in
    let aimed = state c.aim.new.self in
    let ran = state c.run_threads.new.mast in
    let new = state c.send_end.new.mast in
    let n = c.bucket_count.result in
    let e = c.in_err-send_end.field-0.0 in
    let calm : aimed.faults ≡ old.faults = search rules in
    let all : IsCastAnswer deck old new (fault.Mast n) = (
      subst (λ k. Rose k new.faults) (c.in_ok-run.ensures.calm ∙ calm) c.in_err-send_end.ensures.rose,
      all_cast deck _ n old.told aimed.told ran.told new.told c.in_ok-run.ensures.run.whole c.bucket_count.ensures c.requires.unsent c.aim.ensures.kept c.in_ok-run.ensures.aired c.in_err-send_end.ensures.unended,
    ) in
    let h : IsCastAnswer deck old new e = subst (IsCastAnswer deck old new) (sym c.in_err-send_end.ensures.fault) all in
    search (rules, h)

pub returns-clause-sent : goal.returns-clause-sent
returns-clause-sent g c =
    let state = g.M.Mast.state in
    end_behind _ (state c.args.mast.now).told (state c.aim.new.self).told (state c.run_threads.new.mast).told (state c.send_end.new.mast).told c.requires.unsent c.aim.ensures.kept c.in_ok-run.ensures.aired
    c.in_ok-send_end.ensures.ended

pub returns-then-is_err-clause-first : goal.returns-then-is_err-clause-first
returns-then-is_err-clause-first g c = λ sent is.
    let state = g.M.Mast.state in
    let rose : Rose (state c.args.mast.now).faults (state c.aim.new.self).faults = search rules in
    record { just_before = c.args.mast.now; calm = refl; rose = rose; kept = c.aim.ensures.kept }

pub returns-in_err-run-clause-first : goal.returns-in_err-run-clause-first
returns-in_err-run-clause-first g c = λ sent is.
    let state = g.M.Mast.state in
    let old = c.args.mast.now in
    let aimed = c.aim.new.self in
    let e = c.in_err-run.field-0.0 in
    let calm : (state aimed).faults ≡ (state old).faults = search rules in
    run_first state c.args.planned.now old aimed c.run_threads.new.mast e sent (passed_on e (fault.Mast sent) _ c.from_residual.ensures.1 is) calm c.in_err-run.ensures.fault

pub returns-in_err-send_end-clause-first : goal.returns-in_err-send_end-clause-first
returns-in_err-send_end-clause-first g c = λ sent is.
    let state = g.M.Mast.state in
    let calm : (state c.aim.new.self).faults ≡ (state c.args.mast.now).faults = search rules in
    record {
      just_before = c.run_threads.new.mast;
      calm = c.in_ok-run.ensures.calm ∙ calm;
      rose = c.in_err-send_end.ensures.rose;
      kept = c.in_err-send_end.ensures.unended;
    }
