-- Definitions of the searches: the tests by which held reads are named, and which of two clashes is the answer.
use Rattle.std.specs.Prelude.{ℕ, Bool, cond, nat_le, List, get_or, Option, Some, None}
use Rattle.air_base.specs.declared.verdicts.Clash.{Clash}
use Rattle.air_history.specs.Clashes.{HeardRead, entry_of}

-- The clash with a held read.
abbrev pub clash_naming : HeardRead → Clash
clash_naming r = record { item = r.item; cycle = r.cycle }

-- Whether the entries have the item of the held read at its cycle or later.
abbrev pub is_reached : List ℕ → HeardRead → Bool
is_reached entries r = nat_le r.cycle (get_or entries r.item 0)

-- Whether the entries that were heard with the held read have the item at the cycle or later.
abbrev pub has_since : ℕ → ℕ → HeardRead → Bool
has_since item cycle r = nat_le cycle (entry_of r item)

-- The second clash, or the first if there is one and its item number isn't greater.
abbrev pub lesser_of : Option Clash → Clash → Clash
lesser_of None c = c
lesser_of (Some b) c = cond (nat_le b.item c.item) b c
