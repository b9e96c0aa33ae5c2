use Rattle.std.proofs.Common.{◌≡◌, ◌++◌, length}
use Rattle.std.specs.Vec.Iter.{into_iter_items, into_iter_len}
use Rattle.deck_runs.specs.Private.Crews.{monitors_of}
use Rattle.deck_runs.proofs.jobs.openings.watchers_of.Given as goal

abbrev pub invariant-loop-monitor : goal.invariant-loop-monitor
invariant-loop-monitor l =
    (l.yielded ++ into_iter_items l.monitor-iterator ≡ into_iter_items l.initial.monitor-iterator)
    × (into_iter_len l.monitor-iterator ≡ length (into_iter_items l.monitor-iterator))
    × (monitors_of l.watchers.items ≡ l.yielded)
