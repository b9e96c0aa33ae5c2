use Rattle.std.proofs.Common.{◌≡◌, ℕ, List, length}
use Rattle.air_base.specs.Numbers.{number_of}
use Rattle.air_base.specs.NumberLists.{list_of}
use Rattle.item_catalog.specs.KeptLists.{items_seen}
use Rattle.air_base.specs.ReadParts.{part_values, prepend}
use Rattle.item_catalog.proofs.updates.item_lists.ItemList.read.Given as goal

-- Some items were read, and what the rest spells with them is what the text spells.
abbrev pub invariant-loop-item : goal.invariant-loop-item
invariant-loop-item l = (done : List ℕ) × (l.self ≡ items_seen l.declared done) × (prepend done (part_values number_of l.rest) ≡ list_of number_of l.fn.text)

abbrev pub decreases-loop-item : goal.decreases-loop-item
decreases-loop-item l = length l.rest
