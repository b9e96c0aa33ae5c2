use Rattle.std.proofs.Common.{◌≤◌}
use Rattle.air_base.specs.LeadingParts.{DigitsRead}
use Rattle.air_base.proofs.digits.one_by_one.Given as goal

abbrev pub invariant-loop-i : goal.invariant-loop-i
invariant-loop-i l = (l.fn.from ≤ l.i) × DigitsRead l.text l.i l.number
