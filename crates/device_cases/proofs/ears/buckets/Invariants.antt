use Rattle.std.proofs.Common.{◌≤◌, length, All}
use Rattle.device_cases.proofs.ears.buckets.Given as goal

abbrev pub invariant-loop : goal.invariant-loop
invariant-loop l = All (λ bytes. 1 ≤ length bytes.items) l.all.items
