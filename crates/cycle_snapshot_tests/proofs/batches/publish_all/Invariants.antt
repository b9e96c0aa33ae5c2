use Rattle.std.proofs.Common.{◌≡◌, ◌+◌, length}
use Rattle.cycle_snapshot_tests.specs.Workers.{StaysPublisher}
use Rattle.cycle_snapshot_tests.proofs.batches.publish_all.Given as goal

abbrev pub invariant-loop-k : goal.invariant-loop-k
invariant-loop-k g l = record {
  same : StaysPublisher l.initial.publisher l.publisher;
  count : length l.publisher.batches ≡ length l.initial.publisher.batches + l.k;
}
