use Rattle.std.proofs.Common.{◌≡◌}
use Rattle.air_model.specs.Draws.{draw_each}
use Rattle.air_model.specs.Drills.{draw_query}
use Rattle.item_catalog.proofs.deck.drill.draw_queries.Given as goal

abbrev pub invariant-loop-q : goal.invariant-loop-q
invariant-loop-q l = draw_each l._q (λ q. draw_query l.n) l.fn.generator ≡ (l.queries, l.generator)
