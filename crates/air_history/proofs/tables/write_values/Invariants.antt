use Rattle.std.proofs.Common.{◌≡◌, ℕ, ◌<◌, length, get_or, find, drop, ◌==◌}
use Rattle.air_history.specs.Tables.{value_after_write, values_of}
use Rattle.air_history.proofs.tables.write_values.Given as goal

abbrev pub invariant-loop-k : goal.invariant-loop-k
invariant-loop-k l = (i : ℕ) → i < length l.values → get_or l.values i 0 ≡ value_after_write (values_of l.initial.values) i (find (λ w. w.item == i) (drop l.k l.writes))
