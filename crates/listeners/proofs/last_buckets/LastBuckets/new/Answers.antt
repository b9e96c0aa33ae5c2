use Rattle.std.proofs.Common.{arith}
use Rattle.listeners.proofs.last_buckets.LastBuckets.new.Goals as goal

pub invariant_of-result : goal.invariant_of-result
invariant_of-result c = omega (arith, c.loop.invariant, c.loop-test.false, c.loop.auto.counter-end)
