use Rattle.std.proofs.Common.{rules, ◌<◌, subst}
use Rattle.std.specs.Prelude.{Contains, IsTrue}
use Rattle.station.specs.PassStates.{numbers_of}
use Rattle.station_tests.proofs.crews.close.Goals as goal

pub close-history-requires-clause-all : goal.close-history-requires-clause-all
close-history-requires-clause-all c = λ by low.
    let found : IsTrue c.is_complete.result = search rules in
    subst (λ ps. Contains (numbers_of ps) by) c.deref.ensures.value (c.is_complete.ensures found by (subst (λ n. by < n) c.requires.conductor.1 low))
