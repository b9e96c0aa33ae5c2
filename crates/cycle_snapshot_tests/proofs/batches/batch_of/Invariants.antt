use Rattle.std.proofs.Common.{◌≡◌, All}
use Rattle.air_history.specs.Histories.{starts, ItemsFit}
use Rattle.cycle_snapshot_tests.proofs.batches.batch_of.Given as goal

abbrev pub invariant-loop-by : goal.invariant-loop-by
invariant-loop-by l = record {
  fits : All (ItemsFit l.items) l.batch.items;
  none : starts l.batch.items ≡ 0;
}
