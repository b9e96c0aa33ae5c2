use Rattle.std.proofs.Common.{◌≡◌, ◌+◌, length, drop, take, All}
use Rattle.air_history.specs.Histories.{starts}
use Rattle.air_history.specs.Tables.{BasesRead}
use Rattle.control_matrix.specs.BoardSteps.{step_all}
use Rattle.deck_runs.proofs.jobs.cycles.apply_all.Given as goal

abbrev pub invariant-loop-event : goal.invariant-loop-event
invariant-loop-event l = record {
  same : step_all l.board (drop l.event-index l.events) ≡ step_all l.initial.board l.events;
  sized : length l.board.values ≡ length l.initial.board.values;
  cycles : l.board.cycle + starts (drop l.event-index l.events) ≡ l.initial.board.cycle + starts l.events;
  bases : All BasesRead (take l.event-index l.events);
}
