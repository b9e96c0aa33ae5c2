use Rattle.std.proofs.Common.{◌≡◌, ◌≤◌, length}
use Rattle.station_tests.proofs.replays.replay.Given as goal

-- The core has its values and its updaters, and at most as many events as were walked.
abbrev pub invariant-loop-place : goal.invariant-loop-place
invariant-loop-place l = (l.core.updaters ≡ 2) × (length l.core.values ≡ length l.first) × (length l.core.events ≤ l.place)
