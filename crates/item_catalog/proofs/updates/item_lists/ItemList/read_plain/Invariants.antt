use Rattle.std.proofs.Common.{◌≡◌, ◌+◌, ◌-◌, length}
use Rattle.air_base.specs.Numbers.{number_of}
use Rattle.air_base.specs.ReadParts.{ReadsTo}
use Rattle.item_catalog.specs.KeptLists.{items_seen}
use Rattle.item_catalog.proofs.updates.item_lists.ItemList.read_plain.Given as goal

abbrev pub invariant-loop-place : goal.invariant-loop-place
invariant-loop-place l = ReadsTo number_of l.text (λ items. l.self ≡ items_seen l.declared items) l.place

abbrev pub decreases-loop-place : goal.decreases-loop-place
decreases-loop-place l = length l.text + 1 - l.place
