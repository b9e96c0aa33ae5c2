use Rattle.std.proofs.Common.{◌≡◌}
use Rattle.air_model.specs.Draws.{draw_each}
use Rattle.air_model.specs.Drills.{draw_write}
use Rattle.item_catalog.proofs.drills.draws.Reach.draw_writes.Given as goal

abbrev pub invariant-loop-t : goal.invariant-loop-t
invariant-loop-t l = draw_each l.t (draw_write l.self.items l.self.reads l.self.first_read l.self.first_written) l.fn.generator ≡ (l.writes.items, l.generator)
