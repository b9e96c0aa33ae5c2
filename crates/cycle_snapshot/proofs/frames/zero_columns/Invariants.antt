use Rattle.std.proofs.Common.{◌≡◌, length, All}
use Rattle.cycle_snapshot.proofs.frames.zero_columns.Given as goal

abbrev pub invariant-loop : goal.invariant-loop
invariant-loop l = record {
  count : length l.columns.items ≡ l.counter;
  entries : All (λ c. length c.items ≡ l.n) l.columns.items;
}
