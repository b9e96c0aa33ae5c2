use Rattle.std.proofs.Common.{◌≡◌}
use Rattle.air_model.specs.Draws.{draw_each}
use Rattle.air_model.specs.Drills.{draw_query}
use Rattle.item_catalog.proofs.deck.drill.draw_all_queries.Given as goal

abbrev pub invariant-loop-r : goal.invariant-loop-r
invariant-loop-r l = draw_each l._r (λ r. draw_each l.count (λ q. draw_query l.n)) l.fn.generator ≡ (l.lists.items, l.generator)
