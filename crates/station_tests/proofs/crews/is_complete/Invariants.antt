use Rattle.std.proofs.Common.{ℕ, ◌<◌}
use Rattle.std.specs.Prelude.{Contains}
use Rattle.station.specs.PassStates.{numbers_of}
use Rattle.station_tests.proofs.crews.is_complete.Given as goal

abbrev pub invariant-loop-by : goal.invariant-loop-by
invariant-loop-by l = (k : ℕ) → k < l.by → Contains (numbers_of l.passes) k
