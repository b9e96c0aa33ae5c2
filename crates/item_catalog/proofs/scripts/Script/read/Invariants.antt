use Rattle.std.proofs.Common.{◌≡◌, ◌++◌, ℕ, List, Option, false, length}
use Rattle.air_base.specs.NumberLists.{list_of}
use Rattle.item_catalog.specs.Fields.{spelled_event}
use Rattle.item_catalog.specs.Faults.{script_passes}
use Rattle.air_base.specs.ReadParts.{part_values, prepend}
use Rattle.item_catalog.proofs.scripts.Script.read.Given as goal

-- Some events were read, they were added unless they pass a limit, and what the rest spells with them is what the text spells.
abbrev pub invariant-loop-event : goal.invariant-loop-event
invariant-loop-event l = (done : List (Option ℕ)) × (l.passed ≡ script_passes l.fn.self done) × (l.passed ≡ false → l.self ≡ l.fn.self ++ done)
    × (prepend done (part_values spelled_event l.rest) ≡ list_of spelled_event l.fn.text)

abbrev pub decreases-loop-event : goal.decreases-loop-event
decreases-loop-event l = length l.rest
