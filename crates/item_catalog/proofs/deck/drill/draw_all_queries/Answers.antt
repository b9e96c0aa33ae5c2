use Rattle.std.proofs.Common.{ℕ, ◌∙◌, ap, sym}
use Rattle.air_model.specs.Draws.{draw_each}
use Rattle.air_model.specs.Drills.{draw_query}
use Rattle.item_catalog.proofs.DrawLemmas.{drawn_more, drawn_none}
use Rattle.item_catalog.proofs.deck.drill.draw_all_queries.Goals as goal

pub loop-r-init : goal.loop-r-init
loop-r-init c =
    drawn_none (λ (r : ℕ). draw_each c.args.count (λ (q : ℕ). draw_query c.args.n)) c.args.generator ∙ ap (λ xs. (xs, c.args.generator)) (sym c.new-lists.ensures.items)

pub loop-r-preserved : goal.loop-r-preserved
loop-r-preserved c =
    let after = c.in_ok-queries.left in
    drawn_more (λ (r : ℕ). draw_each c.args.count (λ (q : ℕ). draw_query c.args.n)) c.loop-r._r c.args.generator c.loop-r.generator after c.loop-r.lists.items c.in_ok-queries.queries
    c.loop-r.invariant c.in_ok-queries.ensures
    ∙ ap (λ xs. (xs, after)) (sym c.in_ok-push.ensures.items)
