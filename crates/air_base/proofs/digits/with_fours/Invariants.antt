use Rattle.std.proofs.Common.{◌≤◌, ◌-◌, length}
use Rattle.air_base.specs.LeadingParts.{DigitsRead}
use Rattle.air_base.proofs.digits.with_fours.Given as goal

abbrev pub invariant-loop-place : goal.invariant-loop-place
invariant-loop-place l = (l.fn.from ≤ l.place) × (l.place ≤ length l.text) × DigitsRead l.text l.place l.number

abbrev pub decreases-loop-place : goal.decreases-loop-place
decreases-loop-place l = length l.text - l.place
