use Rattle.std.proofs.Common.{◌≡◌, ℕ, ◌+◌, ◌-◌, ◌*◌, ◌≤◌, map}
use Rattle.air_ether.specs.HeardPositions.{InWindow, left_at, position}
use Rattle.air_ether.specs.KeptPushes.{Waits, push_of}
use Rattle.air_ether.proofs.cursor.seek.Given as goal

abbrev pub invariant-loop-cursor : goal.invariant-loop-cursor
invariant-loop-cursor l = record {
  within : InWindow l.pushes l.limit (map push_of l.queue) l.cursor;
  fewer : left_at l.limit l.cursor ≤ left_at l.limit l.initial.cursor;
  same : (due times : ℕ → ℕ) → Waits due times l.pushes (map push_of l.queue) →
      position due times l.pushes l.cursor ≡ position due times l.pushes l.initial.cursor;
}

abbrev pub decreases-loop-cursor : goal.decreases-loop-cursor
decreases-loop-cursor l = (l.limit - l.cursor.number) * 10 + (l.cursor.number + 1 - l.cursor.place)
