use Rattle.std.proofs.Common.{◌≤◌, ◌<◌, ◌+◌, All, [], length, ◌∙◌, ap, arith, subst, sym}
use Rattle.std.proofs.lemmas.List.Elements.{All-filter}
use Rattle.air_model.specs.Copies.{without_item}
use Rattle.air_model.specs.Reads.{Read}
use Rattle.pix_cache.specs.Caches.{Cache}
use Rattle.receiver_core.proofs.KeepsLemmas.{from_next, none_from_to}
use Rattle.receiver_core.proofs.receivers.settling.drop_all.Goals as goal

pub drop_copy-requires : goal.drop_copy-requires
drop_copy-requires c =
    let long = ap length c.loop-item.invariant.pix in
    let all = c.requires.numbers in
    omega arith

pub loop-item-preserved : goal.loop-item-preserved
unfolding without_item
loop-item-preserved c =
    let i = c.loop-item.invariant in
    let e = c.drop_copy.ensures in
    record {
      room = ap (λ (d : Cache). d.room) e ∙ i.room;
      pix = ap (λ (d : Cache). d.pix) e ∙ i.pix;
      from = subst (λ (d : Cache). All (λ (r : Read). c.loop-item.item + 1 ≤ r.item) d.copies) (sym e) (from_next c.loop-item.item c.loop-item.copies.copies i.from);
      below = subst (λ (d : Cache). All (λ (r : Read). r.item < c.args.items) d.copies) (sym e) (All-filter _ (λ (r : Read). r.item < c.args.items) c.loop-item.copies.copies i.below);
    }

pub returns : goal.returns
returns c =
    let i = c.loop-item.invariant in
    let d = c.loop-item.copies in
    let none = none_from_to c.args.items d.copies (λ k r l. let from = i.from k r l in let end = c.loop-item-test.false in omega arith) i.below in
    ap (λ cs. let t : Cache = record d { copies = cs } in t) none
    ∙ ap (λ n. let t : Cache = record { room = n; pix = d.pix; copies = [] } in t) i.room
    ∙ ap (λ p. let t : Cache = record { room = c.args.copies.now.room; pix = p; copies = [] } in t) i.pix
