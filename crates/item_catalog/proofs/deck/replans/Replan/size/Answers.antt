use Rattle.std.proofs.Common.{◌<◌, None, ap, arith, length, refl}
use Rattle.air_model.specs.Decks.{Replan}
use Rattle.item_catalog.specs.DeckLimits.{DiskWithin}
use Rattle.item_catalog.specs.declared.parts.DiskPart.{DiskPart}
use Rattle.item_catalog.proofs.DiskLemmas.{freqs_len, spec_all, spec_at}
use Rattle.item_catalog.proofs.deck.replans.Replan.size.Goals as goal

abbrev none_said : DiskPart
none_said = record { size = 0; freq = None }

pub bounds-self-inside-d : goal.bounds-self-inside-d
bounds-self-inside-d c = omega (arith, freqs_len c.self.inside.delta c.self.inside.disks.now, ap (λ (r : Replan). length r.disks) c.self.view_is)

pub returns-clause-told : goal.returns-clause-told
returns-clause-told c =
    let below : c.args.d < length c.self.inside.disks.now = omega (arith, freqs_len c.self.inside.delta c.self.inside.disks.now, ap (λ (r : Replan). length r.disks) c.self.view_is) in
    rw (← c.self.view_is, spec_at c.self.inside.delta c.self.inside.disks.now c.args.d none_said below) refl

pub returns-clause-some : goal.returns-clause-some
returns-clause-some c =
    let below : c.args.d < length c.self.inside.disks.now = omega (arith, freqs_len c.self.inside.delta c.self.inside.disks.now, ap (λ (r : Replan). length r.disks) c.self.view_is) in
    (spec_all (λ d. (0 < d.size) × (0 < d.freq)) c.self.inside.delta c.self.inside.disks.now c.args.d none_said below c.self.invariant.made.aired).0

pub returns-clause-few : goal.returns-clause-few
returns-clause-few c =
    let below : c.args.d < length c.self.inside.disks.now = omega (arith, freqs_len c.self.inside.delta c.self.inside.disks.now, ap (λ (r : Replan). length r.disks) c.self.view_is) in
    (spec_all DiskWithin c.self.inside.delta c.self.inside.disks.now c.args.d none_said below c.self.invariant.made.limits.disk).size
