use Rattle.std.proofs.Common.{◌∙◌, ap, arith, false, length, refl, sym, true}
use Rattle.air_model.specs.Aired.{Air, fits}
use Rattle.air_model.specs.Buckets.{count_of}
use Rattle.air_model.specs.Programs.{program as slots_of}
use Rattle.chunk_program.specs.Editions.{planned_edition}
use Rattle.receiver_core.specs.AirFields.{air_in}
use Rattle.receiver_core.proofs.AirLemmas.{edition_told, slots_told}
use Rattle.receiver_core.proofs.FitLemmas.{in_slot, newer_version, no_such_slot, other_edition}
use Rattle.receiver_core.proofs.airs.Air.fits.Goals as goal
use Rattle.receiver_core.proofs.airs.Air.fits.Goals.{then-version-self-via-then-version-self, then-version-self-via-else-version-self+then-not-is_in_force}

pub returns-then-version-self : goal.returns-then-version-self
returns-then-version-self c =
    let a = c.self.inside in
    let b = c.args.bucket.now in
    sym (ap (λ (air : Air). fits air b) (sym c.self.view_is) ∙ elim c.then-version-self.branch [
      | then-version-self-via-then-version-self w ↦ newer_version (air_in a) b (omega (arith, c.version.ensures, w.if-version-self.true))
      | then-version-self-via-else-version-self+then-not-is_in_force w ↦ other_edition (air_in a) b
          (λ same.
          let own = w.is_in_force.ensures.told.1 (ap (planned_edition a.plans) w.cycle.ensures ∙ sym same ∙ sym (c.from-edition.ensures ∙ c.edition.ensures)) in
          let other = w.if-not-is_in_force.true in cc)
    ])

pub returns-then-slot-slots : goal.returns-then-slot-slots
returns-then-slot-slots c =
    let a = c.self.inside in
    let b = c.args.bucket.now in
    let told = sym (c.is_in_force.ensures.told.0 c.if-not-is_in_force.false) in
    let slots = ap length (slots_told a b c.from-edition.result c.cycle.result c.program-program.result.now told c.cycle.ensures c.program-program.ensures.told) in
    let counted = c.slots.ensures.counted in
    sym (ap (λ (air : Air). fits air b) (sym c.self.view_is) ∙ no_such_slot (air_in a) b (omega (arith, slots, counted, c.from-slot.ensures, c.slot.ensures, c.if-slot-slots.true)))

pub returns-then-stands_right : goal.returns-then-stands_right
returns-then-stands_right c =
    let a = c.self.inside in
    let b = c.args.bucket.now in
    let told = sym (c.is_in_force.ensures.told.0 c.if-not-is_in_force.false) in
    let own = edition_told a b c.from-edition.result c.cycle.result told c.cycle.ensures in
    let counted = c.slots.ensures.counted in
    in_slot (air_in a) b (slots_of c.program-program.result.now.disks) c.from-slot.result c.slot_item.result true c.count.result
    (slots_told a b c.from-edition.result c.cycle.result c.program-program.result.now told c.cycle.ensures c.program-program.ensures.told)
    (c.from-slot.ensures ∙ c.slot.ensures) (omega (arith, c.version.ensures, c.if-version-self.false)) (sym c.edition.ensures ∙ sym c.from-edition.ensures ∙ own)
    (omega (arith, counted, c.if-slot-slots.false)) c.slot_item.ensures.carried (sym c.if-stands_right.true ∙ c.stands_right.ensures) c.count.ensures
    ∙ ap (λ (air : Air). fits air b) c.self.view_is

pub returns-else-stands_right : goal.returns-else-stands_right
returns-else-stands_right c =
    let a = c.self.inside in
    let b = c.args.bucket.now in
    let told = sym (c.is_in_force.ensures.told.0 c.if-not-is_in_force.false) in
    let own = edition_told a b c.from-edition.result c.cycle.result told c.cycle.ensures in
    let counted = c.slots.ensures.counted in
    c.if-stands_right.false ∙ in_slot (air_in a) b (slots_of c.program-program.result.now.disks) c.from-slot.result c.slot_item.result false (count_of b.body)
    (slots_told a b c.from-edition.result c.cycle.result c.program-program.result.now told c.cycle.ensures c.program-program.ensures.told)
    (c.from-slot.ensures ∙ c.slot.ensures) (omega (arith, c.version.ensures, c.if-version-self.false)) (sym c.edition.ensures ∙ sym c.from-edition.ensures ∙ own)
    (omega (arith, counted, c.if-slot-slots.false)) c.slot_item.ensures.carried (sym c.if-stands_right.false ∙ c.stands_right.ensures) refl
    ∙ ap (λ (air : Air). fits air b) c.self.view_is
