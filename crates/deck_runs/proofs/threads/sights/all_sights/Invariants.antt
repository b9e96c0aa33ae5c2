use Rattle.std.proofs.Common.{◌≡◌, ◌++◌, length}
use Rattle.std.specs.Vec.Iter.{into_iter_items, into_iter_len}
use Rattle.deck_runs.specs.Private.SightSteps.{AreAllSights}
use Rattle.deck_runs.proofs.threads.sights.all_sights.Given as goal

abbrev pub invariant-loop-run : goal.invariant-loop-run
invariant-loop-run l =
    (l.yielded ++ into_iter_items l.run-iterator ≡ into_iter_items l.initial.run-iterator)
    × (into_iter_len l.run-iterator ≡ length (into_iter_items l.run-iterator))
    × AreAllSights l.source l.yielded l.glances.items l.looks.items
