use Rattle.std.proofs.Common.{◌≡◌, ◌+◌, length, drop}
use Rattle.air_history.specs.Histories.{starts}
use Rattle.control_matrix.specs.BoardSteps.{step_all}
use Rattle.cycle_snapshot.proofs.batches.Batch.apply_to.Given as goal

abbrev pub invariant-loop-event : goal.invariant-loop-event
invariant-loop-event l = record {
  same : step_all l.board (drop l.event-index l.event-items) ≡ step_all l.initial.board l.event-items;
  sized : length l.board.values ≡ length l.initial.board.values;
  cycles : l.board.cycle + starts (drop l.event-index l.event-items) ≡ l.initial.board.cycle + starts l.event-items;
}
