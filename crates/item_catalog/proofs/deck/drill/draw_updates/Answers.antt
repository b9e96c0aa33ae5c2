use Rattle.std.proofs.Common.{ℕ, List, ◌∙◌, ap, map, refl, sym}
use Rattle.std.specs.List.{range_with_len}
use Rattle.rand_pcg.specs.Lcg.{Lcg}
use Rattle.air_history.specs.UpdateLists.{UpdateLists}
use Rattle.air_model.specs.Draws.{Draw, draw_each}
use Rattle.air_model.specs.Drills.{dealt_to, draw_update}
use Rattle.item_catalog.proofs.DealLemmas.{deal_more}
use Rattle.item_catalog.proofs.DrawLemmas.{drawn_more, drawn_none, length-draw_each}
use Rattle.item_catalog.proofs.deck.drill.draw_updates.Goals as goal

pub loop-u-init : goal.loop-u-init
loop-u-init c =
    let none = drawn_none (λ (u : ℕ). draw_update c.args.n) c.args.generator in
    record {
      dealt = c.in_ok-lists.ensures ∙ ap (λ (p : List UpdateLists × Lcg). map (dealt_to p.0) (range_with_len 0 4)) (sym none);
      left = ap (λ (p : List UpdateLists × Lcg). p.1) (sym none);
    }

pub loop-u-preserved : goal.loop-u-preserved
loop-u-preserved c =
    let one : ℕ → Draw UpdateLists = λ u. draw_update c.args.n in
    let g = c.args.generator in let u = c.loop-u.u in let before = draw_each u one g in let update = c.in_ok-update.update in let after = c.in_ok-update.left in
    let drawn = ap (draw_update c.args.n) (sym c.loop-u.invariant.left) ∙ c.in_ok-update.ensures in
    let more = drawn_more one u g before.1 after before.0 update refl drawn in
    record {
      dealt = deal_more before.0 update u c.loop-u.lists.items c.index_mut.result.now c.push.new.self (length-draw_each one u g) c.loop-u.invariant.dealt c.index_mut.ensures.value c.in_ok-push.ensures
          ∙ ap (λ (p : List UpdateLists × Lcg). map (dealt_to p.0) (range_with_len 0 4)) (sym more);
      left = ap (λ (p : List UpdateLists × Lcg). p.1) (sym more);
    }
