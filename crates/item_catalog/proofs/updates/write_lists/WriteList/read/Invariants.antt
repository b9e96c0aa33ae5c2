use Rattle.std.proofs.Common.{◌≡◌, List, length}
use Rattle.item_catalog.specs.Writes.{spelled_write}
use Rattle.air_history.specs.declared.updates.Write.{Write}
use Rattle.air_base.specs.NumberLists.{list_of}
use Rattle.item_catalog.specs.KeptLists.{writes_seen}
use Rattle.air_base.specs.ReadParts.{part_values, prepend}
use Rattle.item_catalog.proofs.updates.write_lists.WriteList.read.Given as goal

-- Some writes were read, and what the rest spells with them is what the text spells.
abbrev pub invariant-loop-write : goal.invariant-loop-write
invariant-loop-write l = (done : List Write) × (l.self ≡ writes_seen l.declared l.reads.items done) × (prepend done (part_values spelled_write l.rest) ≡ list_of spelled_write l.fn.text)

abbrev pub decreases-loop-write : goal.decreases-loop-write
decreases-loop-write l = length l.rest
