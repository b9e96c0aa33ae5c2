use Rattle.std.proofs.Common.{◌≡◌}
use Rattle.air_model.specs.Drills.{around}
use Rattle.item_catalog.proofs.drills.draws.around.Given as goal

abbrev pub invariant-loop-t : goal.invariant-loop-t
invariant-loop-t l = l.items.items ≡ around l.n l.first l.gap l.t
