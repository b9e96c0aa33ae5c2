use Rattle.std.proofs.Common.{◌∷◌, [], ◌++◌, ◌+◌, ◌*◌, ◌%◌, ◌∙◌, ap, arith, sym}
use Rattle.std.proofs.lemmas.List.FromFn.{map-range_with_len_more}
use Rattle.air_model.specs.Drills.{around}
use Rattle.item_catalog.proofs.drills.draws.around.Goals as goal

pub loop-t-preserved : goal.loop-t-preserved
loop-t-preserved c =
    let t = c.loop-t.t in let so_far = around c.args.n c.args.first c.args.gap t in
    c.in_ok-push.ensures.items ∙ ap (λ xs. xs ++ c.behind.result ∷ []) c.loop-t.invariant ∙ ap (λ x. so_far ++ x ∷ []) c.behind.ensures
    ∙ sym (map-range_with_len_more (λ t. (c.args.first + c.args.gap * t) % c.args.n) 0 t t (omega arith))
