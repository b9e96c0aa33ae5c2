use Rattle.std.proofs.Common.{◌<◌, ◌≤◌, ap, arith, length}
use Rattle.air_base.specs.declared.limits.TheConstants.{MOST_FREQ}
use Rattle.air_model.specs.Decks.{Deck}
use Rattle.item_catalog.specs.Decks.{with_freqs}
use Rattle.item_catalog.proofs.DiskLemmas.{freq_told, freqs_len}
use Rattle.item_catalog.proofs.deck.Deck.freq.Goals as goal

pub freq_at-requires-clause-within : goal.freq_at-requires-clause-within
freq_at-requires-clause-within c = omega (arith, ap length c.deref.ensures.value, freqs_len c.self.inside.delta c.self.inside.disks.items, ap (λ (d : Deck). length d.disks) c.self.view_is)

pub freq_at-requires-clause-few : goal.freq_at-requires-clause-few
freq_at-requires-clause-few c = let few = c.self.invariant.limits.disks in omega (arith, ap length c.deref.ensures.value, freqs_len c.self.inside.delta c.self.inside.disks.items)

pub returns-clause-some : goal.returns-clause-some
returns-clause-some c =
    let specs = with_freqs c.self.inside.delta c.self.inside.disks.items in
    let below : c.args.d < length specs = omega (arith, ap (λ (d : Deck). length d.disks) c.self.view_is) in
    freq_told (λ f. 0 < f) specs c.args.d c.freq_at.result below (rw c.deref.ensures.value at c.freq_at.ensures) (λ i x inside. (c.self.invariant.made.aired 0 (omega arith) i x inside).1)

pub returns-clause-few : goal.returns-clause-few
returns-clause-few c =
    let specs = with_freqs c.self.inside.delta c.self.inside.disks.items in
    let below : c.args.d < length specs = omega (arith, ap (λ (d : Deck). length d.disks) c.self.view_is) in
    freq_told (λ f. f ≤ MOST_FREQ) specs c.args.d c.freq_at.result below (rw c.deref.ensures.value at c.freq_at.ensures) (λ i x inside. (c.self.invariant.limits.disk i x inside).freq)
