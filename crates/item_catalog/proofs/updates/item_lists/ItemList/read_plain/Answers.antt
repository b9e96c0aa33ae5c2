use Rattle.std.proofs.Common.{◌≡◌, ◌≤◌, ◌∙◌, length, ◌++◌, ◌∷◌, [], ap, arith, sym}
use Rattle.air_base.specs.Numbers.{number_of}
use Rattle.item_catalog.specs.KeptLists.{items_seen, see_item}
use Rattle.air_base.proofs.PlainLists.{plain_further, reads_more, reads_none}
use Rattle.item_catalog.proofs.SeenLemmas.{items_more}
use Rattle.item_catalog.proofs.updates.item_lists.ItemList.read_plain.Goals as goal

pub returns-then-text-lt4 : goal.returns-then-text-lt4
unfolding items_seen
returns-then-text-lt4 c = reads_none number_of c.args.text.now (λ items. c.args.self.now ≡ items_seen c.args.declared items) c.requires.some c.requires.none

pub loop-place-init : goal.loop-place-init
unfolding items_seen
loop-place-init c = reads_none number_of c.args.text.now (λ items. c.args.self.now ≡ items_seen c.args.declared items) c.requires.some c.requires.none

pub loop-place-smaller : goal.loop-place-smaller
loop-place-smaller c =
    let within : c.loop-place.place ≤ length c.args.text.now = omega (arith, c.loop-place-test.true) in
    let further = plain_further number_of c.args.text.now c.loop-place.place (c.in-Some.item, c.in-Some.end) c.in-Some.ensures within in
    omega (arith, further, within, c.in-Some.ensures.1)

pub loop-place-preserved : goal.loop-place-preserved
loop-place-preserved c =
    let inv = c.loop-place.invariant in (
      inv.0 ++ c.in-Some.item ∷ [],
      c.see.ensures ∙ ap (λ s. see_item c.args.declared s c.in-Some.item) inv.1 ∙ sym (items_more c.args.declared inv.0 c.in-Some.item),
      reads_more number_of c.args.text.now c.loop-place.place (c.in-Some.item, c.in-Some.end) c.in-Some.ensures inv.0 (omega (arith, c.loop-place-test.true)) inv.2,
    )
