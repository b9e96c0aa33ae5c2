use Rattle.std.proofs.Common.{◌≡◌, ◌==◌, ◌||◌, ℕ, false, get_or, take}
use Rattle.std.specs.List.{list_any}
use Rattle.live_replay.proofs.sought.seek_read.Given as goal

abbrev pub invariant-loop-item : goal.invariant-loop-item
invariant-loop-item l = (i : ℕ) → get_or l.sought i false ≡ (get_or l.initial.sought i false || list_any (λ r. r == i) (take l.item-index l.reads))
