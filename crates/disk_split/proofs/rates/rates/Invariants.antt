use Rattle.std.proofs.Common.{◌≡◌, map, take}
use Rattle.air_model.specs.Decks.{Item}
use Rattle.disk_split.proofs.HotLemmas.{rate_of}
use Rattle.disk_split.proofs.rates.rates.Given as goal

abbrev pub invariant-loop-item : goal.invariant-loop-item
invariant-loop-item l = map rate_of l.rates.items ≡ map (λ (i : Item). i.rate) (take l.item l.deck.items)
