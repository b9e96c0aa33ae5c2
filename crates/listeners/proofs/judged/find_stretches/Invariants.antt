use Rattle.std.proofs.Common.{◌≤◌, length}
use Rattle.listeners.specs.Private.JudgedPieces.{IsStretch}
use Rattle.listeners.proofs.JudgedLemmas.{RunsFrom}
use Rattle.listeners.proofs.judged.find_stretches.Given as goal

-- The members from this place on have their stretches, and the next is that of the first of them.
abbrev pub invariant-loop-place : goal.invariant-loop-place
invariant-loop-place l = record {
  within : l.place ≤ length l.heard;
  next : IsStretch l.air l.heard l.place l.next;
  stretches : RunsFrom l.air l.heard l.stretches l.place;
}

abbrev pub decreases-loop-place : goal.decreases-loop-place
decreases-loop-place l = l.place
