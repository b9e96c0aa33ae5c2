use Rattle.std.proofs.Common.{◌≡◌, map, take}
use Rattle.item_catalog.proofs.deck.Deck.values.Given as goal

-- The values of the first items.
abbrev pub invariant-loop-i : goal.invariant-loop-i
invariant-loop-i l = l.values.items ≡ map (λ i. i.value) (take l.i l.fn.self.items)
