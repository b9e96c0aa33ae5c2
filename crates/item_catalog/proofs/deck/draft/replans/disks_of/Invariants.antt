use Rattle.std.proofs.Common.{◌≡◌, take}
use Rattle.item_catalog.specs.Parts.{disks_said}
use Rattle.item_catalog.proofs.deck.draft.replans.disks_of.Given as goal

abbrev pub invariant-loop-k : goal.invariant-loop-k
invariant-loop-k l = l.disks.items ≡ disks_said (take l.k l.sizes) (take l.k l.freqs)
