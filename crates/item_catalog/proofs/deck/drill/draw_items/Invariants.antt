use Rattle.std.proofs.Common.{◌≡◌, map}
use Rattle.air_model.specs.Draws.{draw_each}
use Rattle.air_model.specs.Drills.{draw_item}
use Rattle.item_catalog.specs.Decks.{plain_item}
use Rattle.item_catalog.proofs.deck.drill.draw_items.Given as goal

abbrev pub invariant-loop-i : goal.invariant-loop-i
invariant-loop-i l = draw_each l._i (λ i. draw_item) l.fn.generator ≡ (map plain_item l.items.items, l.generator)
