use Rattle.std.proofs.Common.{◌≡◌, length}
use Rattle.listeners.proofs.last_buckets.LastBuckets.new.Given as goal

abbrev pub invariant-loop : goal.invariant-loop
invariant-loop l = length l.buckets.items ≡ l.counter
