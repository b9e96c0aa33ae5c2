use Rattle.std.proofs.Common.{◌≡◌, drop, map}
use Rattle.air_history.specs.UpdateRules.{has_repeat, written_item}
use Rattle.air_history.proofs.updates.has_item_twice.Given as goal

abbrev pub invariant-loop-i : goal.invariant-loop-i
invariant-loop-i l = has_repeat (map written_item (drop l.i l.writes)) ≡ has_repeat (map written_item l.writes)
