use Rattle.std.proofs.Common.{◌≡◌, ℕ, ◌<◌, length, get_or}
use Rattle.air_history.specs.Tables.{values_of}
use Rattle.update_commit.proofs.receipts.copy_read.Given as goal

abbrev pub invariant-loop-place : goal.invariant-loop-place
invariant-loop-place l = (length l.into ≡ length l.items) × ((k d : ℕ) → k < l.place → get_or l.into k 0 ≡ values_of l.values (get_or l.items k d))
