use Rattle.std.proofs.Common.{◌≡◌, map, take}
use Rattle.air_model.specs.Decks.{Item}
use Rattle.chunk_program.proofs.cutting.rates.Given as goal

abbrev pub invariant-loop-item : goal.invariant-loop-item
invariant-loop-item l = l.rates.items ≡ map (λ (i : Item). i.rate) (take l.item l.deck.items)
