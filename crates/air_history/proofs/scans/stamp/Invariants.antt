use Rattle.std.proofs.Common.{◌≡◌, ◌==◌, ℕ, ◌<◌, cond, get_or, length, take}
use Rattle.std.specs.List.{list_any}
use Rattle.air_history.proofs.scans.stamp.Given as goal

abbrev pub invariant-loop-write : goal.invariant-loop-write
invariant-loop-write l = (i : ℕ) → i < length l.out → get_or l.out i 0 ≡ cond (list_any (λ w. w.item == i) (take l.write-index l.writes)) l.cycle (get_or l.initial.out i 0)
