use Rattle.std.proofs.Common.{◌≡◌}
use Rattle.std.specs.List.{flat_map, range_with_len}
use Rattle.air_model.specs.Drills.{turn_of}
use Rattle.item_catalog.proofs.deck.drill.drill_script.Given as goal

abbrev pub invariant-loop-u : goal.invariant-loop-u
invariant-loop-u l = l.script ≡ flat_map turn_of (range_with_len 0 l.u)
