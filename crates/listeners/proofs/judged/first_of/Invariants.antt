use Rattle.std.proofs.Common.{ℕ, ◌≢◌, ◌-◌, ◌<◌, ◌≤◌, length, get_or}
use Rattle.listeners.proofs.judged.first_of.Given as goal

-- The item isn't at any place before.
abbrev pub invariant-loop-place : goal.invariant-loop-place
invariant-loop-place l = record {
  within : l.place ≤ length l.items;
  other : (j d : ℕ) → j < l.place → get_or l.items j d ≢ l.item;
}

abbrev pub decreases-loop-place : goal.decreases-loop-place
decreases-loop-place l = length l.items - l.place
