use Rattle.std.proofs.Common.{◌≡◌, drop}
use Rattle.air_history.specs.UpdateRules.{has_repeat}
use Rattle.air_history.proofs.updates.has_number_twice.Given as goal

abbrev pub invariant-loop-i : goal.invariant-loop-i
invariant-loop-i l = has_repeat (drop l.i l.numbers) ≡ has_repeat l.numbers
