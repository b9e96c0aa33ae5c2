use Rattle.std.proofs.Common.{◌≡◌, map, []}
use Rattle.std.specs.List.{range_with_len}
use Rattle.air_model.specs.Drills.{dealt_to}
use Rattle.item_catalog.proofs.deck.drill.no_updates.Given as goal

abbrev pub invariant-loop-by : goal.invariant-loop-by
invariant-loop-by l = l.lists.items ≡ map (dealt_to []) (range_with_len 0 l._by)
