use Rattle.std.proofs.Common.{◌≡◌, ◌==◌, ℕ, ◌<◌, cond, get_or, length, take}
use Rattle.std.specs.List.{list_any}
use Rattle.control_matrix.proofs.marks.mark.Given as goal

abbrev pub invariant-loop-write : goal.invariant-loop-write
invariant-loop-write l = (k : ℕ) → k < length l.marks → get_or l.marks k 0 ≡ cond (list_any (λ w. w.item == k) (take l.write-index l.written)) 1 0
