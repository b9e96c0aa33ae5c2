use Rattle.std.proofs.Common.{ℕ, map, arith, ◌∙◌, ap, subst}
use Rattle.std.specs.declared.cmp.Reverse.{Reverse}
use Rattle.std.specs.List.Sorted.{IsPermutation}
use Rattle.std.proofs.lemmas.List.{take_all}
use Rattle.chunk_program.specs.Private.Ranks.{ranks}
use Rattle.chunk_program.proofs.RankLemmas.{order_from_ranks}
use Rattle.chunk_program.proofs.cuts.order.Goals as goal

pub returns : goal.returns
returns c =
    let sorted = c.sort_unstable.new.self.items in
    let all = take_all c.loop-item.item-index c.deref-item-items.result.now (omega arith) in
    let moved : IsPermutation (ranks c.args.rates.now) sorted = subst (λ l. IsPermutation l sorted) c.in_ok-ranked.ensures c.sort_unstable.ensures.permutation in
    c.loop-item.invariant ∙ ap (map (λ (r : Reverse ℕ × ℕ). r.1)) (all ∙ c.deref-item-items.ensures.value) ∙ order_from_ranks c.args.rates.now sorted moved c.sort_unstable.ensures.sorted
