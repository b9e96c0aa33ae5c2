use Rattle.std.proofs.Common.{◌≡◌, replicate, []}
use Rattle.item_catalog.proofs.deck.draft.no_updates.Given as goal

abbrev pub invariant-loop-by : goal.invariant-loop-by
invariant-loop-by l = l.lists.items ≡ replicate l._by []
