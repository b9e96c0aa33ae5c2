use Rattle.std.proofs.Common.{◌≡◌, [], get_or, length, map, take, ℕ, Vec, Global}
use Rattle.receiver_core.proofs.readers.queries.Given as goal

abbrev pub invariant-loop-query : goal.invariant-loop-query
invariant-loop-query l = record {
  made : map (λ (q : Vec ℕ Global). q.items) l.queries.items ≡ take l.query (get_or l.deck.queries l.number []);
  all : l.query-end ≡ length (get_or l.deck.queries l.number []);
}
