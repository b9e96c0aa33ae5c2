use Rattle.std.proofs.Common.{◌≡◌, ◌≤◌, length}
use Rattle.cycle_snapshot_tests.proofs.looks.walk.Given as goal

abbrev pub invariant-loop-place : goal.invariant-loop-place
invariant-loop-place g l = record {
  own : l.monitor.publisher ≡ l.source.id;
  items : length l.source.values ≡ 2;
  same : length l.monitor.values ≡ 2;
  most : l.source.most ≡ 100;
  few : length l.source.batches ≤ l.place;
}
