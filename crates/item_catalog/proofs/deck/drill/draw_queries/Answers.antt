use Rattle.std.proofs.Common.{ℕ, ◌∙◌, ap, sym}
use Rattle.air_model.specs.Drills.{draw_query}
use Rattle.item_catalog.proofs.DrawLemmas.{drawn_more, drawn_none}
use Rattle.item_catalog.proofs.deck.drill.draw_queries.Goals as goal

pub loop-q-init : goal.loop-q-init
loop-q-init c = drawn_none (λ (q : ℕ). draw_query c.args.n) c.args.generator ∙ ap (λ xs. (xs, c.args.generator)) (sym c.new-queries.ensures)

pub loop-q-preserved : goal.loop-q-preserved
loop-q-preserved c =
    let after = c.in_ok-items.left in
    drawn_more (λ (q : ℕ). draw_query c.args.n) c.loop-q._q c.args.generator c.loop-q.generator after c.loop-q.queries c.from_vec.result c.loop-q.invariant (c.in_ok-items.ensures ∙ ap (λ items. (items, after)) (sym c.from_vec.ensures))
    ∙ ap (λ xs. (xs, after)) (sym c.in_ok-push.ensures)
