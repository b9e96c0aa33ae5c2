use Rattle.std.proofs.Common.{◌≡◌, map}
use Rattle.std.specs.List.{range_with_len}
use Rattle.air_model.specs.Draws.{draw_each}
use Rattle.air_model.specs.Drills.{dealt_to, draw_update}
use Rattle.item_catalog.proofs.deck.drill.draw_updates.Given as goal

abbrev pub invariant-loop-u : goal.invariant-loop-u
invariant-loop-u l = record {
  dealt : l.lists.items ≡ map (dealt_to (draw_each l.u (λ u. draw_update l.n) l.fn.generator).0) (range_with_len 0 4);
  left : l.generator ≡ (draw_each l.u (λ u. draw_update l.n) l.fn.generator).1;
}
