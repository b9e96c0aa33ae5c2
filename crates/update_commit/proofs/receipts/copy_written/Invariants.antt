use Rattle.std.proofs.Common.{◌≡◌, ℕ, ◌<◌, length, get_or}
use Rattle.air_history.specs.declared.updates.Write.{Write}
use Rattle.air_history.specs.Tables.{values_of}
use Rattle.update_commit.proofs.receipts.copy_written.Given as goal

abbrev pub invariant-loop-place : goal.invariant-loop-place
invariant-loop-place l = (length l.into ≡ length l.writes) × ((k : ℕ) (d : Write) → k < l.place → get_or l.into k 0 ≡ values_of l.values (get_or l.writes k d).item)
