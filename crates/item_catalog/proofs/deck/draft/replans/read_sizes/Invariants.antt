use Rattle.std.proofs.Common.{◌≡◌, ℕ, List, false, length}
use Rattle.std.specs.List.{list_any}
use Rattle.air_base.specs.NumberLists.{list_of}
use Rattle.air_base.specs.ReadParts.{part_values, prepend}
use Rattle.air_base.specs.declared.limits.TheConstants.{MOST_SIZE}
use Rattle.air_base.specs.Numbers.{number_of}
use Rattle.item_catalog.specs.Private.ReplanLists.{kept_parts}
use Rattle.item_catalog.specs.Ranges.{outside}
use Rattle.item_catalog.proofs.deck.draft.replans.read_sizes.Given as goal

-- Some parts were read, the first ones were kept unless one is wrong, and what the rest spells with them is what the text spells.
abbrev pub invariant-loop-size : goal.invariant-loop-size
invariant-loop-size l = (done : List ℕ) × (l.wrong ≡ list_any (outside 1 MOST_SIZE) done) × (l.wrong ≡ false → l.sizes.items ≡ kept_parts done)
    × (prepend done (part_values number_of l.rest) ≡ list_of number_of l.fn.text)

abbrev pub decreases-loop-size : goal.decreases-loop-size
decreases-loop-size l = length l.rest
