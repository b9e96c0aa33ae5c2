use Rattle.std.proofs.Common.{List, map}
use Rattle.air_history.specs.Reads.{ReadAt, origin}
use Rattle.live_replay.specs.Private.Groups.{MarksOrigins}
use Rattle.live_replay.proofs.MarkedLemmas.{IsMarkedTo}
use Rattle.live_replay.proofs.groups.mark_back.Given as goal

abbrev pub invariant-loop-at : goal.invariant-loop-at
invariant-loop-at l = (R : List ReadAt) → MarksOrigins (map (origin l.events) R) l.first l.fn.marks → IsMarkedTo l.events R l.first l.at l.fn.marks l.marks l.sought
