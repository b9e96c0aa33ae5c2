use Rattle.std.proofs.Common.{◌≡◌, ◌≤◌, ◌++◌, length, vec_capacity}
use Rattle.std.specs.Vec.Iter.{into_iter_items, into_iter_len}
use Rattle.deck_runs.specs.Private.Crews.{passes_of}
use Rattle.deck_runs.proofs.threads.stages.hand_in.Given as goal

abbrev pub invariant-loop-run : goal.invariant-loop-run
invariant-loop-run l =
    (l.yielded ++ into_iter_items l.run-iterator ≡ into_iter_items l.initial.run-iterator)
    × (into_iter_len l.run-iterator ≡ length (into_iter_items l.run-iterator))
    × (l.passes.items ≡ passes_of l.yielded)
    × (length (into_iter_items l.initial.run-iterator) ≤ vec_capacity l.passes)
