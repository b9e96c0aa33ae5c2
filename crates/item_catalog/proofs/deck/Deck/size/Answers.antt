use Rattle.std.proofs.Common.{◌<◌, arith, ap, length, refl}
use Rattle.air_model.specs.Decks.{Deck}
use Rattle.item_catalog.specs.DeckLimits.{DiskWithin}
use Rattle.item_catalog.proofs.DiskLemmas.{freqs_all, freqs_at, freqs_len}
use Rattle.item_catalog.proofs.deck.Deck.size.Goals as goal
use Rattle.item_catalog.proofs.deck.Deck.size.Goals.{After-index}

within : (c : After-index) → c.args.d < length c.self.inside.disks.items
within c = omega (arith, freqs_len c.self.inside.delta c.self.inside.disks.items, ap (λ (d : Deck). length d.disks) c.self.view_is)

pub index-requires : goal.index-requires
index-requires c = omega (arith, freqs_len c.self.inside.delta c.self.inside.disks.items, ap (λ (d : Deck). length d.disks) c.self.view_is)

pub returns-clause-told : goal.returns-clause-told
returns-clause-told c = rw (← c.self.view_is, freqs_at c.self.inside.delta c.self.inside.disks.items c.args.d c.index.result.now (within c) c.index.ensures) refl

pub returns-clause-some : goal.returns-clause-some
returns-clause-some c =
    (freqs_all (λ d. (0 < d.size) × (0 < d.freq)) c.self.inside.delta c.self.inside.disks.items c.args.d c.index.result.now (within c) c.index.ensures (c.self.invariant.made.aired 0 (omega arith))).0

pub returns-clause-few : goal.returns-clause-few
returns-clause-few c =
    let few = (freqs_all DiskWithin c.self.inside.delta c.self.inside.disks.items c.args.d c.index.result.now (within c) c.index.ensures c.self.invariant.limits.disk).size in omega arith
