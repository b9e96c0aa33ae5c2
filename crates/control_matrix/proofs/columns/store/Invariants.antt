use Rattle.std.proofs.Common.{◌≡◌, ◌==◌, ℕ, ◌<◌, cond, length, take}
use Rattle.std.specs.List.{list_any}
use Rattle.control_matrix.specs.Columns.{column_in}
use Rattle.control_matrix.proofs.columns.store.Given as goal

abbrev pub invariant-loop-write : goal.invariant-loop-write
invariant-loop-write l = (j : ℕ) → j < length l.column →
    column_in (length l.column) l.entries j ≡ cond (list_any (λ w. w.item == j) (take l.write-index l.writes)) l.column (column_in (length l.column) l.initial.entries j)
