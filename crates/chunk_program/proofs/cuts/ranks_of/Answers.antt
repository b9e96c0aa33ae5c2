use Rattle.std.proofs.Common.{rules, ◌≡◌, true, ◌∙◌, ap, sym, [], ◌∷◌, ◌++◌, arith}
use Rattle.std.specs.Result.{is_ok}
use Rattle.std.proofs.lemmas.List.FromFn.{map-range_with_len_more}
use Rattle.chunk_program.specs.Private.Ranks.{rank_of}
use Rattle.chunk_program.proofs.cuts.ranks_of.Goals as goal

pub loop-item-preserved : goal.loop-item-preserved
loop-item-preserved c =
    let good : is_ok c.push.result ≡ true = search rules in
    let items = rw good at c.push.ensures.items in
    let rank = rank_of c.args.rates.now in
    items ∙ ap (λ l. l ++ rank c.loop-item.item ∷ []) c.loop-item.invariant ∙ sym (map-range_with_len_more rank 0 c.loop-item.item c.loop-item.item (omega arith))
