use Rattle.std.proofs.Common.{◌≡◌, ◌≤◌, ◌<◌, ℕ, None, length}
use Rattle.std.specs.Prelude.{slice_index_or}
use Rattle.disk_split.specs.Private.Tables.{improved}
use Rattle.disk_split.proofs.tables.improve.Given as goal

abbrev pub invariant-loop-len : goal.invariant-loop-len
invariant-loop-len l = record {
  done : (k : ℕ) → k < l.len → k < length l.fn.cells → slice_index_or l.cells k None ≡ improved l.next l.chunk l.more k (slice_index_or l.fn.cells k None);
  rest : (k : ℕ) → l.len ≤ k → slice_index_or l.cells k None ≡ slice_index_or l.fn.cells k None;
}
