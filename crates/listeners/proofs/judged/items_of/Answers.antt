use Rattle.std.proofs.Common.{◌∷◌, [], length, length-append, get_or, ap, subst, sym, arith}
use Rattle.listeners.specs.Private.JudgedPieces.{TellsItem}
use Rattle.listeners.proofs.JudgedLemmas.{noted_more}
use Rattle.listeners.proofs.judged.items_of.Goals as goal

pub loop-member-preserved : goal.loop-member-preserved
loop-member-preserved c =
    let i = c.loop-member.invariant in
    let items = c.loop-member.items.items in
    let heard = c.args.heard.now in
    record {
      within = omega (arith, c.loop-member-test.true);
      long = omega (arith, ap length c.in_ok-push.ensures.items, length-append items (c.item_in.result ∷ []), i.long);
      each = λ k n d below. subst (λ l. TellsItem (get_or l k n) (get_or heard k d)) (sym c.in_ok-push.ensures.items)
          (noted_more heard items c.loop-member.member-index c.item_in.result c.member-item.result i.long c.loop-member-test.true c.member-item.is c.item_in.ensures i.each k n d below);
    }

pub returns : goal.returns
returns c =
    let i = c.loop-member.invariant in
    let past = c.loop-member-test.false in
    record { long = omega (arith, i.long, past, i.within); each = λ k n d below. i.each k n d (omega (arith, past, below)) }
