use Rattle.std.proofs.Common.{◌≡◌, length}
use Rattle.air_base.specs.Numbers.{number_of}
use Rattle.air_base.specs.NumberLists.{list_of}
use Rattle.air_base.specs.ReadParts.{part_values, prepend}
use Rattle.air_base.proofs.BadParts.{BadFrom}
use Rattle.air_base.proofs.number_lists.read_list.Given as goal

-- The numbers so far and what the rest spells are together what the text spells, and its first bad part is that of the rest.
abbrev pub invariant-loop-number : goal.invariant-loop-number
invariant-loop-number l = (prepend l.numbers.items (part_values number_of l.rest) ≡ list_of number_of l.fn.text) × BadFrom number_of l.fn.text l.rest

abbrev pub decreases-loop-number : goal.decreases-loop-number
decreases-loop-number l = length l.rest
