use Rattle.std.proofs.Common.{◌≡◌}
use Rattle.air_history.specs.Histories.{cycle_at}
use Rattle.air_history.proofs.histories.History.starts.Given as goal

abbrev pub invariant-loop-event : goal.invariant-loop-event
invariant-loop-event l = l.seen ≡ cycle_at l.event-items l.event-index
