use Rattle.std.proofs.Common.{◌≡◌, ◌<◌, ◌∙◌, false, true, ap, arith, length, set, subst, sym, take}
use Rattle.std.proofs.lemmas.List.{length-take-le, take_more_set}
use Rattle.air_base.specs.declared.limits.TheConstants.{MOST_ITEMS}
use Rattle.item_catalog.specs.KeptLists.{ItemsSeen, KeptOnce, among, see_item}
use Rattle.item_catalog.proofs.KeptOnceLemmas.{item_kept, kept_more, kept_room}
use Rattle.item_catalog.proofs.updates.item_lists.ItemList.see.Goals as goal

pub bounds-self-inside-self-inside : goal.bounds-self-inside-self-inside
bounds-self-inside-self-inside c =
    let l = c.self.inside in
    let inside : c.args.item < MOST_ITEMS = omega (arith, c.if-from-item.false, c.from.ensures, c.requires) in
    let room = kept_room l.marks (take l.count l.items) c.self.invariant.1 c.args.item inside c.if-self-place.false in
    omega (arith, room, length-take-le l.count l.items (omega (arith, c.self.told.1, c.self.invariant.0)))

pub invariant_of-self-2 : goal.invariant_of-self-2
invariant_of-self-2 c =
    let l = c.self.inside in
    let inside : c.args.item < MOST_ITEMS = omega (arith, c.if-from-item.false, c.from.ensures, c.requires) in
    let room = kept_room l.marks (take l.count l.items) c.self.invariant.1 c.args.item inside c.if-self-place.false in
    let within : l.count < length l.items = omega (arith, room, length-take-le l.count l.items (omega (arith, c.self.told.1, c.self.invariant.0)), c.self.told.1) in (
      omega (arith, within, c.self.told.1),
      subst (KeptOnce (set l.marks c.args.item true)) (sym (take_more_set l.items l.count c.args.item within)) (kept_more l.marks (take l.count l.items) c.self.invariant.1 c.args.item inside c.if-self-place.false c.self.told.0),
    )

pub returns : goal.returns
returns c =
    let l = c.self.inside in
    let inside : c.args.item < MOST_ITEMS = omega (arith, c.if-from-item.false, c.from.ensures, c.requires) in
    let room = kept_room l.marks (take l.count l.items) c.self.invariant.1 c.args.item inside c.if-self-place.false in
    let within : l.count < length l.items = omega (arith, room, length-take-le l.count l.items (omega (arith, c.self.told.1, c.self.invariant.0)), c.self.told.1) in
    let absent : among (take l.count l.items) c.args.item ≡ false = sym (c.self.invariant.1.marked c.args.item inside) ∙ c.if-self-place.false in
    let old : ItemsSeen = record { items = take l.count l.items; undeclared = l.undeclared; repeated = l.repeated } in
    item_kept c.args.declared old c.args.item _ (omega (arith, c.if-from-item.false, c.from.ensures)) absent (take_more_set l.items l.count c.args.item within)
    ∙ ap (λ s. see_item c.args.declared s c.args.item) c.self.view_is
