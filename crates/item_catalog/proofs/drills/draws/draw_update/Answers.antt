use Rattle.std.proofs.Common.{◌≡◌, ◌∙◌, List, ℕ, ap, sym}
use Rattle.air_history.specs.UpdateLists.{UpdateLists}
use Rattle.air_history.specs.UpdateRules.{update_fault}
use Rattle.air_model.specs.Drills.{around, draw_update}
use Rattle.item_catalog.proofs.DrawnLemmas.{drawn_keeps, update_told}
use Rattle.item_catalog.proofs.drills.draws.draw_update.Goals as goal
use Rattle.item_catalog.proofs.drills.draws.draw_update.Goals.{After-deref-2}

-- What was drawn.
told : (c : After-deref-2) → draw_update c.args.n c.args.generator
    ≡ (record { reads = around c.args.n c.draw_place-first.result 1 c.draw-count.result; writes = c.in_ok-writes.writes.items }, c.draw_writes.new.generator)
told c = update_told c.args.n c.draw-count.result c.draw_place-first.result c.draw-more.result c.draw_place.result c.in_ok-writes.writes.items
    c.args.generator c.draw-count.new.generator c.draw_place-first.new.generator c.draw-more.new.generator c.draw_place.new.generator c.draw_writes.new.generator
    c.draw-count.ensures.drawn c.draw_place-first.ensures.drawn c.draw-more.ensures.drawn c.draw_place.ensures.drawn c.in_ok-writes.ensures

pub of_lists-requires : goal.of_lists-requires
of_lists-requires c =
    let reads = around c.args.n c.draw_place-first.result 1 c.draw-count.result in
    ap (λ xs. update_fault xs c.deref-2.result.now) (c.deref.ensures.value ∙ c.in_ok-reads.ensures)
    ∙ ap (update_fault reads) c.deref-2.ensures.value
    ∙ drawn_keeps c.args.n reads c.in_ok-writes.writes.items c.args.generator c.draw_writes.new.generator c.requires (told c)

pub returns : goal.returns
returns c =
    let d = (goal.at.returns c).After-deref-2 in
    let reads = around c.args.n c.draw_place-first.result 1 c.draw-count.result in let last = c.draw_writes.new.generator in
    told d
    ∙ ap (λ (xs : List ℕ). (record { reads = xs; writes = c.in_ok-writes.writes.items }, last)) (sym (c.deref.ensures.value ∙ c.in_ok-reads.ensures))
    ∙ ap (λ ws. (record { reads = c.deref.result.now; writes = ws }, last)) (sym c.deref-2.ensures.value)
    ∙ ap (λ (u : UpdateLists). (u, last)) (sym c.in_ok-update.ensures)
