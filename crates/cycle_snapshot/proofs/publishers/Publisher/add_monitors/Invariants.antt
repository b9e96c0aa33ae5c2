use Rattle.std.proofs.Common.{◌≡◌, ◌≤◌, length, All, vec_capacity}
use Rattle.cycle_snapshot.specs.SnapshotStates.{MonitorState, new_monitor}
use Rattle.cycle_snapshot.proofs.publishers.Publisher.add_monitors.Given as goal

abbrev pub invariant-loop : goal.invariant-loop
invariant-loop l = record {
  same : l.self ≡ l.initial.self;
  count : length l.all.items ≡ l.counter;
  room : l.monitors ≤ vec_capacity l.all;
  each : All (λ (m : MonitorState). m ≡ new_monitor l.initial.self) l.all.items;
}
