use Rattle.std.proofs.Common.{◌∷◌, [], ◌++◌, ◌∙◌, ap, arith, map, sym}
use Rattle.std.specs.List.{range_with_len}
use Rattle.std.proofs.lemmas.List.FromFn.{map-range_with_len_more}
use Rattle.air_history.specs.UpdateLists.{UpdateLists}
use Rattle.air_model.specs.Drills.{dealt_to}
use Rattle.item_catalog.proofs.deck.drill.no_updates.Goals as goal

pub loop-by-preserved : goal.loop-by-preserved
loop-by-preserved c =
    c.in_ok-push.ensures.items ∙ ap (λ xs. xs ++ c.new.result ∷ []) c.loop-by.invariant ∙ ap (λ x. map (dealt_to []) (range_with_len 0 c.loop-by._by) ++ x ∷ []) c.new.ensures
    ∙ sym (map-range_with_len_more (dealt_to {A = UpdateLists} []) 0 c.loop-by._by c.loop-by._by (omega arith))
