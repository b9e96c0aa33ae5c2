use Rattle.live_replay.specs.Findings.{places_read}
use Rattle.live_replay.proofs.BackwardLemmas.{IsPassed}
use Rattle.live_replay.proofs.alone.none_late.Given as goal

abbrev pub invariant-loop-at : goal.invariant-loop-at
invariant-loop-at l = IsPassed l.events (places_read l.reads) l.at l.sought
