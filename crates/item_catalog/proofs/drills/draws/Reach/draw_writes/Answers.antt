use Rattle.std.proofs.Common.{◌∙◌, ap, sym}
use Rattle.air_model.specs.Drills.{draw_write}
use Rattle.item_catalog.proofs.DrawLemmas.{drawn_more, drawn_none}
use Rattle.item_catalog.proofs.drills.draws.Reach.draw_writes.Goals as goal

pub loop-t-init : goal.loop-t-init
loop-t-init c =
    let s = c.args.self.now in
    drawn_none (draw_write s.items s.reads s.first_read s.first_written) c.args.generator.now ∙ ap (λ xs. (xs, c.args.generator.now)) (sym c.new-writes.ensures.items)

pub loop-t-preserved : goal.loop-t-preserved
loop-t-preserved c =
    let s = c.args.self.now in let after = c.draw_write.new.generator in
    drawn_more (draw_write s.items s.reads s.first_read s.first_written) c.loop-t.t c.args.generator.now c.loop-t.generator after c.loop-t.writes.items c.draw_write.result c.loop-t.invariant c.draw_write.ensures
    ∙ ap (λ xs. (xs, after)) (sym c.in_ok-push.ensures.items)
