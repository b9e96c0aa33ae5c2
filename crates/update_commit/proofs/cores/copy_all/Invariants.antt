use Rattle.std.proofs.Common.{◌≡◌, ◌++◌, take}
use Rattle.update_commit.proofs.cores.copy_all.Given as goal

abbrev pub invariant-loop-event : goal.invariant-loop-event
invariant-loop-event l = l.out.items ≡ l.initial.out.items ++ take l.event-index l.events
