use Rattle.std.proofs.Common.{◌≡◌, ◌∙◌, ◌++◌, ◌∷◌, [], arith, ap, length, sym}
use Rattle.std.proofs.lemmas.List.{nil_from_length}
use Rattle.std.proofs.lemmas.Bool.Decides.{nat_tests}
use Rattle.air_base.specs.Numbers.{number_of}
use Rattle.air_base.specs.NumberLists.{list_of}
use Rattle.item_catalog.specs.KeptLists.{items_seen, see_item}
use Rattle.air_base.proofs.LeadingListLemmas.{after_short, list_bad, list_empty, list_last, list_more}
use Rattle.air_base.specs.ReadParts.{part_values, prepend}
use Rattle.air_base.proofs.PlainNumbers.{from_place}
use Rattle.item_catalog.proofs.SeenLemmas.{items_more, read_none, read_some}
use Rattle.item_catalog.proofs.updates.item_lists.ItemList.read.Goals as goal

pub returns-then-is_empty-clause-read : goal.returns-then-is_empty-clause-read
unfolding items_seen
returns-then-is_empty-clause-read c =
    let none : length c.args.text.now ≡ 0 = grind (arith, nat_tests) in
    read_some (list_of number_of c.args.text.now) [] _ (list_empty number_of c.args.text.now none) c.clear.ensures

pub returns-then-text-place-clause-read : goal.returns-then-text-place-clause-read
returns-then-text-place-clause-read c =
    let to = c.read_plain-place.ensures in
    read_some (list_of number_of c.args.text.now) to.0 _ (to.2.1 c.if-text-place.true) to.1

pub loop-item-init : goal.loop-item-init
loop-item-init c =
    let to = c.read_plain-place.ensures in
    (to.0, to.1, ap (λ l. prepend to.0 (part_values number_of l)) (from_place c.args.text.now c.read_plain-place.result) ∙ to.2.0 c.if-text-place.false)

pub returns-in_default-clause-read : goal.returns-in_default-clause-read
returns-in_default-clause-read c =
    let inv = c.loop-item.invariant in
    read_none (list_of number_of c.args.text.now) _ (list_bad number_of _ inv.0 c.loop-item.rest.now inv.2 c.in_default.ensures)

pub returns-in_default-split_first-clause-read : goal.returns-in_default-split_first-clause-read
returns-in_default-split_first-clause-read c =
    let inv = c.loop-item.invariant in
    let end : c.in-Some.after.now ≡ [] = nil_from_length c.in-Some.after.now c.in_default-split_first.ensures.cases in
    read_some (list_of number_of c.args.text.now) (inv.0 ++ c.in-Some.item ∷ []) _ (list_last number_of _ inv.0 c.loop-item.rest.now inv.2 c.in-Some.item c.in-Some.ensures.0 (sym c.in-Some.ensures.1 ∙ end))
    (c.see.ensures ∙ ap (λ s. see_item c.args.declared s c.in-Some.item) inv.1 ∙ sym (items_more c.args.declared inv.0 c.in-Some.item))

pub loop-item-smaller : goal.loop-item-smaller
loop-item-smaller c =
    let short = after_short c.loop-item.rest.now in
    omega (arith, ap length c.in-Some.ensures.1, c.in-Some-split_first.ensures.cases.1)

pub loop-item-preserved : goal.loop-item-preserved
loop-item-preserved c =
    let inv = c.loop-item.invariant in (
      inv.0 ++ c.in-Some.item ∷ [],
      c.see.ensures ∙ ap (λ s. see_item c.args.declared s c.in-Some.item) inv.1 ∙ sym (items_more c.args.declared inv.0 c.in-Some.item),
      list_more number_of _ inv.0 c.loop-item.rest.now inv.2 c.in-Some.item _ c.in-Some-split_first.more.now c.in-Some.ensures.0 (sym c.in-Some.ensures.1 ∙ c.in-Some-split_first.ensures.cases.0),
    )
