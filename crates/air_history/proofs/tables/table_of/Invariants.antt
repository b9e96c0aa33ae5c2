use Rattle.std.proofs.Common.{◌≡◌, ℕ, get_or, take}
use Rattle.air_history.specs.Tables.{table, values_of}
use Rattle.air_history.proofs.tables.table_of.Given as goal

abbrev pub invariant-loop-event : goal.invariant-loop-event
invariant-loop-event l = (i : ℕ) → get_or l.values i 0 ≡ table (values_of l.initial.values) (take l.event-index l.event-items) i
