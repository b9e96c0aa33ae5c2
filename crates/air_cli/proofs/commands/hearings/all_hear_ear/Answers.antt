use Rattle.std.proofs.Common.{rules, ◌≡◌, ◌+◌, ◌-◌, ◌≤◌, All, length, take, refl, sym, subst, ◌∙◌, arith}
use Rattle.air_devices.specs.Counts.{Rose}
use Rattle.air_devices.specs.Ears.{Hears}
use Rattle.air_devices.specs.declared.ears.Heard.TheVariants as heard
use Rattle.listeners.proofs.ReaderLemmas.{HasRoom, room_after}
use Rattle.air_cli.specs.Hearings.{IsHearAnswer}
use Rattle.air_cli.specs.declared.commands.hearings.HearFault.TheVariants as fault
use Rattle.air_cli.specs.declared.commands.hearings.TheConstants.{MOST_HEARD_BYTES}
use Rattle.air_cli.proofs.EarLemmas.{bucket_fits, heard_just, heard_more, heard_none, heard_over, over_only, taken_so}
use Rattle.air_cli.proofs.commands.hearings.all_hear_ear.Goals as goal

pub loop-n-init : goal.loop-n-init
loop-n-init g c = record {
  room = λ k d within. let most = c.requires.counts k d within in omega arith;
  heard = heard_none (g.E.Ear.state c.args.ear.now).told c.args.listeners.items;
  calm = refl;
  port = refl;
  long = c.requires.room;
}

pub returns-in_default-heard-clause-heard : goal.returns-in_default-heard-clause-heard
returns-in_default-heard-clause-heard g c =
    let E = g.E.Ear in
    let before = (E.state c.args.ear.now).told in
    let mid = (E.state c.loop-n.ear).told in
    let now = (E.state c.hear.new.self).told in
    let n = c.loop-n.n in
    let most = c.loop-n-test.true in
    heard_over before c.args.listeners.items n c.args.hears mid now c.loop-n.listeners.items (omega arith) c.loop-n.invariant.heard
    (over_only mid now c.hear.new.buf c.in-Ok.heard (λ len e. c.in_default-heard.not-Bucket len e) c.in-Ok.ensures.heard)

pub returns-in_err-listeners-clause-fault : goal.returns-in_err-listeners-clause-fault
returns-in_err-listeners-clause-fault g c =
    let E = g.E.Ear in
    let old = E.state c.args.ear.now in
    let mid = (E.state c.loop-n.ear).told in
    let new = E.state c.hear.new.self in
    let n = c.loop-n.n in
    let most = c.loop-n-test.true in
    let buf = c.hear.new.buf in
    let len = c.in-Bucket.len in
    let long : length buf ≡ MOST_HEARD_BYTES = c.hear.auto.buf ∙ c.loop-n.invariant.long in
    let told : Hears mid new.told buf (heard.Bucket len) = subst (Hears mid new.told buf) c.in-Bucket.is c.in-Ok.ensures.heard in
    let more = heard_more old.told c.args.listeners.items n mid new.told c.loop-n.listeners.items _ (take len buf) c.loop-n.invariant.heard (bucket_fits mid new.told buf len long told)
    (taken_so mid new.told buf (take len buf) len long refl told) refl in
    let few : n + 1 ≤ c.args.hears = omega arith in
    let h : IsHearAnswer c.args.hears old new fault.NoMemory =
    (c.in-Ok.ensures.cause.calm ∙ c.loop-n.invariant.calm, (n + 1, few, heard_just old.told c.args.listeners.items (n + 1) new.told new.told _ more refl)) in
    search (rules, h)

pub loop-n-preserved : goal.loop-n-preserved
loop-n-preserved g c =
    let E = g.E.Ear in
    let before = (E.state c.args.ear.now).told in
    let mid = (E.state c.loop-n.ear).told in
    let now = (E.state c.hear.new.self).told in
    let n = c.loop-n.n in
    let left = c.args.hears - (n + 1) in
    let most = c.loop-n-test.true in
    let buf = c.hear.new.buf in
    let len = c.in-Bucket.len in
    let long : length buf ≡ MOST_HEARD_BYTES = c.hear.auto.buf ∙ c.loop-n.invariant.long in
    let told : Hears mid now buf (heard.Bucket len) = subst (Hears mid now buf) c.in-Bucket.is c.in-Ok.ensures.heard in
    let one : c.args.hears - n ≡ left + 1 = omega arith in
    let is = c.in_ok-listeners.ensures in
    record {
      room = subst (All (HasRoom left)) (sym is) (room_after _ left c.loop-n.listeners.items (subst (λ k. All (HasRoom k) c.loop-n.listeners.items) one c.loop-n.invariant.room));
      heard = heard_more before c.args.listeners.items n mid now c.loop-n.listeners.items c.in_ok-listeners.listeners.items (take len buf) c.loop-n.invariant.heard (bucket_fits mid now buf len long told)
          (taken_so mid now buf (take len buf) len long refl told) is;
      calm = c.in-Ok.ensures.cause.calm ∙ c.loop-n.invariant.calm;
      port = c.hear.ensures.port ∙ c.loop-n.invariant.port;
      long = long;
    }

pub returns-in_default-clause-first : goal.returns-in_default-clause-first
returns-in_default-clause-first g c = λ heard is.
    let E = g.E.Ear in
    let i = c.loop-n.invariant in
    let rose : Rose (E.state c.loop-n.ear).faults (E.state c.hear.new.self).faults = search rules in
    let kept : (E.state c.hear.new.self).told ≡ (E.state c.loop-n.ear).told = search rules in
    record { just_before = c.loop-n.ear; calm = i.calm; rose = rose; kept = kept }
