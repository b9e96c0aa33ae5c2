use Rattle.std.proofs.Common.{rules}
use Rattle.std.specs.Prelude.{Contains, IsTrue}
use borrow.Author.Count.{below_more}
use Rattle.station.specs.PassStates.{numbers_of}
use Rattle.station_tests.proofs.crews.is_complete.Goals as goal

pub loop-by-preserved : goal.loop-by-preserved
loop-by-preserved c =
    let found : IsTrue c.has_number.result = search rules in
    below_more (λ k. Contains (numbers_of c.args.passes.now) k) c.loop-by.by c.loop-by.invariant (c.has_number.ensures found)
