use Rattle.std.proofs.Common.{◌≡◌, All, sym, ap, subst, arith}
use Rattle.std.specs.Prelude.{Contains, IsTrue}
use Rattle.station.specs.PassStates.{PassState, numbers_of}
use Rattle.deck_runs.specs.declared.jobs.crews.UpdaterRun.{UpdaterRun}
use Rattle.deck_runs.proofs.StageLemmas.{all_numbers, same_station}
use Rattle.deck_runs.proofs.EndLemmas.{begins, ends}
use Rattle.deck_runs.proofs.threads.stages.Stage.end.Goals as goal

pub close-history-requires-clause-own : goal.close-history-requires-clause-own
close-history-requires-clause-own c =
    let s = c.args.self in (
      ap (λ (p : PassState). p.station) c.requires.pass,
      subst (All (λ (p : PassState). p.station ≡ s.station)) (sym c.hand_in.ensures) (same_station s.station s.planned.now s.updaters.items c.requires.updaters),
    )

pub close-history-requires-clause-all : goal.close-history-requires-clause-all
close-history-requires-clause-all c = λ by l.
    let s = c.args.self in
    let count = ap (λ (p : PassState). p.updaters) c.requires.pass in
    subst (λ ps. Contains (numbers_of ps) by) (sym c.hand_in.ensures) (all_numbers s.station s.planned.now s.updaters.items c.requires.updaters by (omega arith))

pub returns-then-not-done-clause-begins : goal.returns-then-not-done-clause-begins
returns-then-not-done-clause-begins c =
    let s = c.args.self in
    let e = c.close-history.ensures in
    begins s.station s.planned.now s.updaters.items c.requires.updaters s.conductor.pass c.close-history.result c.hand_in.new.passes.items c.requires.pass c.hand_in.ensures e.each e.conductor e.fits c.requires.few

pub returns-clause-begins : goal.returns-clause-begins
returns-clause-begins c =
    let s = c.args.self in
    let e = c.close-history.ensures in
    begins s.station s.planned.now s.updaters.items c.requires.updaters s.conductor.pass c.close-history.result c.hand_in.new.passes.items c.requires.pass c.hand_in.ensures e.each e.conductor e.fits c.requires.few

pub returns-clause-end : goal.returns-clause-end
returns-clause-end c =
    let s = c.args.self in
    let e = c.close-history.ensures in
    ends s.station s.planned.now s.updaters.items c.requires.updaters s.conductor.pass c.close-history.result c.hand_in.new.passes.items c.requires.pass c.hand_in.ensures e.each e.conductor e.fits
    (subst (All (λ (run : UpdaterRun). IsTrue run.done)) c.deref.ensures.value (c.are_done-done.ensures.0 c.if-not-done.false))
