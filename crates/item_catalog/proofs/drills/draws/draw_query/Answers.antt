use Rattle.std.proofs.Common.{◌∙◌, ap, sym}
use Rattle.item_catalog.proofs.DrawnLemmas.{query_told}
use Rattle.item_catalog.proofs.drills.draws.draw_query.Goals as goal

pub returns : goal.returns
returns c =
    let last = c.draw_place-first.new.generator in
    query_told c.args.n c.draw-more.result c.draw_place-first.result c.args.generator c.draw-more.new.generator last c.draw-more.ensures.drawn c.draw_place-first.ensures.drawn
    ∙ ap (λ items. (items, last)) (sym c.in_ok-items.ensures)
