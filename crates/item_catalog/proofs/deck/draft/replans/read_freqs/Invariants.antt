use Rattle.std.proofs.Common.{◌≡◌, ℕ, List, Option, false, length}
use Rattle.std.specs.List.{list_any}
use Rattle.air_base.specs.NumberLists.{list_of}
use Rattle.air_base.specs.ReadParts.{part_values, prepend}
use Rattle.air_base.specs.declared.limits.TheConstants.{MOST_FREQ}
use Rattle.item_catalog.specs.Fields.{freq_of}
use Rattle.item_catalog.specs.ListTests.{option_any}
use Rattle.item_catalog.specs.Private.ReplanLists.{kept_parts}
use Rattle.item_catalog.specs.Ranges.{outside}
use Rattle.item_catalog.proofs.deck.draft.replans.read_freqs.Given as goal

-- Some parts were read, the first ones were kept unless one is wrong, and what the rest spells with them is what the text spells.
abbrev pub invariant-loop-freq : goal.invariant-loop-freq
invariant-loop-freq l = (done : List (Option ℕ)) × (l.wrong ≡ list_any (option_any (outside 1 MOST_FREQ)) done) × (l.wrong ≡ false → l.freqs.items ≡ kept_parts done)
    × (prepend done (part_values freq_of l.rest) ≡ list_of freq_of l.fn.text)

abbrev pub decreases-loop-freq : goal.decreases-loop-freq
decreases-loop-freq l = length l.rest
