use Rattle.std.proofs.Common.{◌≡◌, ◌<◌, ◌+◌, ◌-◌, length, refl, subst, arith}
use Rattle.listeners.proofs.JudgedLemmas.{RunsFrom, no_run, run_more, runs_more}
use Rattle.listeners.specs.Private.JudgedPieces.{IsStretch}
use Rattle.listeners.proofs.judged.find_stretches.Goals as goal

pub loop-place-init : goal.loop-place-init
loop-place-init c = record {
  within = omega arith;
  next = no_run c.args.air.now c.args.heard.now _ _ (omega arith) refl;
  stretches = record { long = c.requires; each = λ k d least below. absurd (omega arith) };
}

pub loop-place-preserved : goal.loop-place-preserved
loop-place-preserved c =
    let i = c.loop-place.invariant in
    let heard = c.args.heard.now in
    let p = c.loop-place.place - 1 in
    let some = c.loop-place-test.true in
    let within = i.within in
    let inside : p < length heard = omega arith in
    let after : c.loop-place.place ≡ p + 1 = omega arith in
    let begins = run_more c.args.air.now heard p c.index-heard-place.result c.loop-place.next c.stretch_before-next.result inside c.index-heard-place.is
    (subst (λ k. IsStretch c.args.air.now heard k c.loop-place.next) after i.next) c.stretch_before-next.ensures in
    record {
      within = omega arith;
      next = begins;
      stretches = runs_more c.args.air.now heard c.loop-place.stretches p c.stretch_before-next.result inside (subst (RunsFrom c.args.air.now heard c.loop-place.stretches) after i.stretches) begins;
    }

pub returns : goal.returns
returns c =
    let i = c.loop-place.invariant in
    let past = c.loop-place-test.false in
    record { long = i.stretches.long; each = λ k d below. i.stretches.each k d (omega (arith, past)) below }
