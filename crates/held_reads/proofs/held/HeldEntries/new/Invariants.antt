use Rattle.std.proofs.Common.{◌≡◌, length, All}
use Rattle.held_reads.proofs.held.HeldEntries.new.Given as goal

abbrev pub invariant-loop : goal.invariant-loop
invariant-loop l = record {
  made : length l.places.items ≡ l.counter;
  sized : All (λ r. length r.entries.items ≡ l.n) l.places.items;
}
