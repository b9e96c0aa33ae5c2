use Rattle.std.proofs.Common.{◌≡◌, ℕ, ◌<◌, get_or, length, take}
use Rattle.air_history.specs.Places.{greatest_of}
use Rattle.control_matrix.specs.Columns.{column_in}
use Rattle.control_matrix.proofs.columns.merge.Given as goal

abbrev pub invariant-loop-item : goal.invariant-loop-item
invariant-loop-item l = (k : ℕ) → k < length l.out → get_or l.out k 0 ≡ greatest_of (λ r. get_or (column_in (length l.fn.out) l.entries r) k 0) (take l.item-index l.reads)
