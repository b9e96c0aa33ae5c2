use Rattle.std.proofs.Common.{length}
use Rattle.fault_notes.proofs.tapes.CutTape.feed.Given as goal

abbrev pub decreases-loop-byte : goal.decreases-loop-byte
decreases-loop-byte l = length l.rest
