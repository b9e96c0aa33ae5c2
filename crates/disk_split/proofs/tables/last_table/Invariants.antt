use Rattle.std.proofs.Common.{◌≡◌, ◌<◌, ℕ, [], length}
use Rattle.std.specs.Prelude.{slice_index_or}
use Rattle.disk_split.specs.Private.Tables.{IsTableRow}
use Rattle.disk_split.proofs.tables.last_table.Given as goal

abbrev pub invariant-loop-from : goal.invariant-loop-from
invariant-loop-from l = record {
  long : length l.rows.items ≡ l.from;
  rows : (k : ℕ) → k < l.from → IsTableRow l.sums [] k l.width (slice_index_or l.rows.items k []);
}
