use Rattle.std.proofs.Common.{take}
use Rattle.live_replay.specs.Private.Groups.{HaveMarks}
use Rattle.live_replay.proofs.groups.all_marks.Given as goal

abbrev pub invariant-loop-read : goal.invariant-loop-read
invariant-loop-read l = HaveMarks l.replay l.others (take l.read-index l.reads) l.marks.items
