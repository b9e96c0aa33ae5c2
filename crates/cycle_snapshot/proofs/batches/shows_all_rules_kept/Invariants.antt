use Rattle.std.proofs.Common.{All, take}
use Rattle.air_history.specs.Tables.{BasesRead}
use Rattle.cycle_snapshot.proofs.batches.shows_all_rules_kept.Given as goal

abbrev pub invariant-loop-event : goal.invariant-loop-event
invariant-loop-event l = All BasesRead (take l.event-index l.events)
