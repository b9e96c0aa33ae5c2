use Rattle.std.proofs.Common.{None, refl}
use Rattle.item_catalog.proofs.DiskLemmas.{spec_at}
use Rattle.item_catalog.proofs.deck.replans.freq_at.Goals as goal

pub returns-in-Some : goal.returns-in-Some
returns-in-Some c = rw (spec_at c.args.delta c.args.disks.now c.args.d (record { size = 0; freq = None }) c.requires.within, c.in-Some.is) refl

pub returns-in-None : goal.returns-in-None
returns-in-None c = rw (spec_at c.args.delta c.args.disks.now c.args.d (record { size = 0; freq = None }) c.requires.within, c.in-None.is) c.graded_freq.ensures
