use Rattle.std.proofs.Common.{◌≡◌, ℕ, ◌<◌, get_or, length}
use Rattle.air_history.specs.Histories.{cycle_at}
use Rattle.air_history.proofs.ColumnLemmas.{marked_entry}
use Rattle.air_history.proofs.scans.stamp_marked.Given as goal

abbrev pub invariant-loop-place : goal.invariant-loop-place
invariant-loop-place l = record {
  seen_is : l.seen ≡ cycle_at l.events l.place;
  out_is : (i : ℕ) → i < length l.out → get_or l.out i 0 ≡ marked_entry l.events l.marks l.place i;
}
