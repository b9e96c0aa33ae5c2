use Rattle.std.proofs.Common.{◌≡◌, length, All}
use Rattle.air_ether.proofs.waiting.queue.Given as goal

abbrev pub invariant-loop : goal.invariant-loop
invariant-loop l = record {
  made : length l.queue.items ≡ l.counter;
  sized : All (λ w. length w.room.items ≡ l.most) l.queue.items;
  blank : All (λ w. (w.len ≡ 0) × (w.times ≡ 0)) l.queue.items;
}
