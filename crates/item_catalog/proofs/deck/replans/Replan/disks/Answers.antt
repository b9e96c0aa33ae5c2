use Rattle.std.proofs.Common.{ap, arith, length}
use Rattle.air_model.specs.Decks.{Replan}
use Rattle.item_catalog.proofs.DiskLemmas.{freqs_len}
use Rattle.item_catalog.proofs.deck.replans.Replan.disks.Goals as goal

pub overflow_cast-result : goal.overflow_cast-result
overflow_cast-result c = let few = c.self.invariant.made.limits.disks in omega (arith, freqs_len c.self.inside.delta c.self.inside.disks.now)

pub returns-clause-told : goal.returns-clause-told
returns-clause-told c = omega (arith, freqs_len c.self.inside.delta c.self.inside.disks.now, ap (λ (r : Replan). length r.disks) c.self.view_is)

pub returns-clause-few : goal.returns-clause-few
returns-clause-few c = let few = c.self.invariant.made.limits.disks in omega (arith, freqs_len c.self.inside.delta c.self.inside.disks.now)
