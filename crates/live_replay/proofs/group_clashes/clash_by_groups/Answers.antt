use Rattle.std.proofs.Common.{◌∷◌, [], sym, subst}
use Rattle.live_replay.specs.Private.Groups.{HaveMarks}
use Rattle.live_replay.proofs.group_clashes.clash_by_groups.Goals as goal

pub least_clash-requires-clause-held_marks : goal.least_clash-requires-clause-held_marks
least_clash-requires-clause-held_marks c = subst (HaveMarks c.args.replay.now (c.args.read.now ∷ []) c.args.held.now) (sym c.deref.ensures.value) c.in_ok-held_marks.ensures
