use Rattle.std.proofs.Common.{◌∷◌, ◌-◌, [], get_or, sym, subst, arith}
use Rattle.air_base.specs.declared.verdicts.ReadOf.{ReadOf}
use Rattle.live_replay.specs.Private.Groups.{AreMarksOf}
use Rattle.live_replay.proofs.GroupClashLemmas.{marks_for}
use Rattle.live_replay.proofs.group_clashes.least_clash.Goals as goal

pub group_clash-requires-clause-held : goal.group_clash-requires-clause-held
group_clash-requires-clause-held c = c.requires.held (c.loop-k.k - 1) (record { item = 0; cycle = 0; value = 0 }) (omega (arith, c.loop-k.auto.k, c.loop-k-test.true))

pub group_clash-requires-clause-held_marks : goal.group_clash-requires-clause-held_marks
group_clash-requires-clause-held_marks c =
    let none : ReadOf = record { item = 0; cycle = 0; value = 0 } in
    subst (AreMarksOf c.args.replay.now (c.args.read.now ∷ []) (get_or c.args.held.now (c.loop-k.k - 1) none)) (sym c.index-held_marks-k.is)
    (c.requires.held_marks.each (c.loop-k.k - 1) none c.index-held_marks-k.result (omega (arith, c.loop-k.auto.k, c.loop-k-test.true)))

pub group_clash-requires-clause-marks : goal.group_clash-requires-clause-marks
group_clash-requires-clause-marks c =
    marks_for c.args.replay.now c.args.held.now c.args.read.now c.args.marks.now (c.loop-k.k - 1) (record { item = 0; cycle = 0; value = 0 }) (omega (arith, c.loop-k.auto.k, c.loop-k-test.true)) c.requires.marks
