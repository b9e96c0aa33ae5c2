use Rattle.std.proofs.Common.{ap, subst, sym, ◌∙◌, length, List}
use Rattle.air_model.specs.Disks.{Disk, all_items, cut}
use Rattle.air_model.proofs.ItemOrder.{length-order}
use Rattle.chunk_program.specs.CutConditions.{AreDeckDisks}
use Rattle.chunk_program.specs.PlaceTables.{HasPlaces}
use Rattle.chunk_program.proofs.CutLemmas.{cut_length, cut_limits, cut_whole}
use Rattle.chunk_program.proofs.cuts.Cut.new.Goals as goal

pub cut_items-requires : goal.cut_items-requires
cut_items-requires c = c.requires.sizes ∙ sym (ap length (c.deref.ensures.value ∙ c.in_ok-order.ensures) ∙ length-order c.args.rates.now)

pub places-requires-clause-limits : goal.places-requires-clause-limits
places-requires-clause-limits c =
    let items = c.deref.ensures.value ∙ c.in_ok-order.ensures in
    let specs = c.args.specs.now in
    let is = c.deref-2.ensures.value ∙ c.in_ok-disks.ensures ∙ ap (λ l. cut l specs) items in
    subst AreDeckDisks (sym is) (cut_limits c.args.rates.now specs c.requires)

pub places-requires-clause-count : goal.places-requires-clause-count
places-requires-clause-count c =
    let items = c.deref.ensures.value ∙ c.in_ok-order.ensures in
    let specs = c.args.specs.now in
    let is = c.deref-2.ensures.value ∙ c.in_ok-disks.ensures ∙ ap (λ l. cut l specs) items in
    sym (ap (λ (l : List Disk). length (all_items l)) is ∙ cut_length c.args.rates.now specs c.requires)

pub returns-clause-limits : goal.returns-clause-limits
returns-clause-limits c =
    let items = c.deref.ensures.value ∙ c.in_ok-order.ensures in
    let specs = c.args.specs.now in
    subst AreDeckDisks (sym (c.in_ok-disks.ensures ∙ ap (λ l. cut l specs) items)) (cut_limits c.args.rates.now specs c.requires)

pub invariant_of-result : goal.invariant_of-result
invariant_of-result c =
    let items = c.deref.ensures.value ∙ c.in_ok-order.ensures in
    let specs = c.args.specs.now in
    let is = c.in_ok-disks.ensures ∙ ap (λ l. cut l specs) items in
    let table = c.in_ok-places.places.items in
    record {
      order = c.in_ok-order.ensures ∙ sym (ap all_items is ∙ cut_whole c.args.rates.now specs c.requires);
      limits = subst AreDeckDisks (sym is) (cut_limits c.args.rates.now specs c.requires);
      len = c.in_ok-places.ensures.len ∙ sym (ap length c.in_ok-order.ensures ∙ length-order c.args.rates.now);
      places = subst (λ (l : List Disk). HasPlaces l (all_items l) table) c.deref-2.ensures.value c.in_ok-places.ensures.places;
    }
