use Rattle.std.proofs.Common.{◌≡◌, replicate, []}
use Rattle.item_catalog.proofs.deck.draft.no_queries.Given as goal

abbrev pub invariant-loop-reader : goal.invariant-loop-reader
invariant-loop-reader l = l.lists.items ≡ replicate l._reader []
