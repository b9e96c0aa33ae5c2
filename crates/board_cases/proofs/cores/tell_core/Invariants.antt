use Rattle.std.proofs.Common.{◌≡◌, ◌≤◌, length}
use Rattle.board_cases.proofs.cores.tell_core.Given as goal

-- The core has its values and updaters, and at most as many events as were walked.
abbrev pub invariant-loop-place : goal.invariant-loop-place
invariant-loop-place l = (l.core.updaters ≡ l.updaters) × (length l.core.values ≡ length l.first) × (length l.core.events ≤ l.place)
