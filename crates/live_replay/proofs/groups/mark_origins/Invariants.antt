use Rattle.std.proofs.Common.{take}
use Rattle.live_replay.specs.Private.Groups.{MarksOrigins}
use Rattle.live_replay.proofs.groups.mark_origins.Given as goal

abbrev pub invariant-loop-origin : goal.invariant-loop-origin
invariant-loop-origin l = MarksOrigins (take l.origin-index l.origins) l.first l.marks
