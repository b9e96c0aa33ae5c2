use Rattle.std.proofs.Common.{◌≡◌, ◌+◌, ◌-◌, length}
use Rattle.item_catalog.specs.Writes.{spelled_write}
use Rattle.air_base.specs.ReadParts.{ReadsTo}
use Rattle.item_catalog.specs.KeptLists.{writes_seen}
use Rattle.item_catalog.proofs.updates.write_lists.WriteList.read_plain.Given as goal

abbrev pub invariant-loop-place : goal.invariant-loop-place
invariant-loop-place l = ReadsTo spelled_write l.text (λ writes. l.self ≡ writes_seen l.declared l.reads.items writes) l.place

abbrev pub decreases-loop-place : goal.decreases-loop-place
decreases-loop-place l = length l.text + 1 - l.place
