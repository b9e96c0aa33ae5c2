-- What a caller is told of a text that is no list.
use Rattle.std.specs.Prelude.{◌≡◌, ℕ, Option, Some}
use Rattle.air_base.specs.declared.number_lists.ListFault.{ListFault}
use Rattle.air_base.specs.declared.number_lists.ListFault.TheVariants.{BadNumber, NoMemory}

-- The fault names the byte at which the first bad part begins, or is that of no memory, for which no cause is given.
abbrev pub TellsBadPart : ListFault → Option ℕ → Type 0
TellsBadPart (BadNumber at) bad = bad ≡ Some at
TellsBadPart NoMemory bad = Unit {0}
