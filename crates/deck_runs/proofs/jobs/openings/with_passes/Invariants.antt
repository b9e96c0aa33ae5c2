use Rattle.std.proofs.Common.{◌≡◌, ◌++◌, length}
use Rattle.std.specs.Vec.Iter.{into_iter_items, into_iter_len}
use Rattle.deck_runs.specs.Private.Crews.{passes_of}
use Rattle.deck_runs.proofs.jobs.openings.with_passes.Given as goal

abbrev pub invariant-loop-pass : goal.invariant-loop-pass
invariant-loop-pass l =
    (l.yielded ++ into_iter_items l.pass-iterator ≡ into_iter_items l.initial.pass-iterator)
    × (into_iter_len l.pass-iterator ≡ length (into_iter_items l.pass-iterator))
    × (passes_of l.updaters.items ≡ l.yielded)
