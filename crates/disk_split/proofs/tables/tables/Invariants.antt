use Rattle.std.proofs.Common.{◌≡◌, ◌≤◌, ◌+◌, ◌-◌, ℕ, [], drop, length}
use Rattle.std.specs.Prelude.{slice_index_or}
use Rattle.disk_split.specs.Private.Tables.{IsTable}
use Rattle.disk_split.proofs.tables.tables.Given as goal

abbrev pub invariant-loop-count : goal.invariant-loop-count
invariant-loop-count l = record {
  long : length l.tables.items ≡ l.count + 1;
  tables : (k : ℕ) → k ≤ l.count → IsTable l.sums (drop (length l.chunks - k) l.chunks) l.width (slice_index_or l.tables.items k []);
}
