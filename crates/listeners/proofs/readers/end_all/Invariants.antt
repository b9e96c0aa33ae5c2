use Rattle.std.proofs.Common.{◌≡◌, map}
use Rattle.std.specs.List.{flat_map}
use Rattle.listeners.proofs.ReaderLemmas.{counts_of, verdicts_of}
use Rattle.listeners.proofs.readers.end_all.Given as goal

abbrev pub invariant-loop-listener : goal.invariant-loop-listener
invariant-loop-listener l = (l.sessions.verdicts.items ≡ flat_map verdicts_of l.yielded) × (l.sessions.counts.items ≡ map counts_of l.yielded)
