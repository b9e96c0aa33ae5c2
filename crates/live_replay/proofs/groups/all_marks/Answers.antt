use Rattle.std.proofs.Common.{◌+◌, [], take, arith, sym, subst}
use Rattle.air_base.specs.declared.verdicts.ReadOf.{ReadOf}
use Rattle.live_replay.specs.Private.Groups.{HaveMarks}
use Rattle.live_replay.proofs.GroupClashLemmas.{have_all, have_more, have_none}
use Rattle.live_replay.proofs.groups.all_marks.Goals as goal

pub loop-read-init : goal.loop-read-init
loop-read-init c = subst (HaveMarks c.args.replay.now c.args.others.now []) (sym c.new-marks.ensures.items) (have_none c.args.replay.now c.args.others.now)

pub loop-read-preserved : goal.loop-read-preserved
loop-read-preserved c =
    let r = c.args.replay.now in
    let none : ReadOf = record { item = 0; cycle = 0; value = 0 } in
    subst (HaveMarks r c.args.others.now (take (c.loop-read.read-index + 1) c.args.reads.now)) (sym c.in_ok-push.ensures.items)
    (have_more r c.args.others.now c.args.reads.now c.loop-read.marks.items c.loop-read.read-index none c.in_ok-marks_of.field-0 c.loop-read-test.true c.in_ok-marks_of.ensures c.loop-read.invariant)

pub returns : goal.returns
returns c = have_all c.args.replay.now c.args.others.now c.args.reads.now c.loop-read.marks.items c.loop-read.read-index (omega arith) c.loop-read.invariant
