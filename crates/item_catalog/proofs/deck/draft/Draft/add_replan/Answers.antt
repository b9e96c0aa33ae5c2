use Rattle.std.proofs.Common.{◌∷◌, [], ap, arith, length, length-append, subst, sym, All, ◌≤◌}
use Rattle.air_base.specs.declared.limits.TheConstants.{MOST_DISKS}
use Rattle.item_catalog.specs.Parts.{ReplanSaid}
use Rattle.item_catalog.specs.Private.Drafts.{DraftValue}
use Rattle.item_catalog.proofs.KeptLemmas.{all_push}
use Rattle.item_catalog.proofs.deck.draft.Draft.add_replan.Goals as goal

pub invariant_of-self-2 : goal.invariant_of-self-2
invariant_of-self-2 c =
    let inv = c.self.invariant in let old = c.self.inside.replans.items in let replan = c.in_ok-replan.replan in
    let items = c.in_ok-push.ensures.items in let room = c.in_ok-replan.ensures.room in
    record {
      items = inv.items;
      disks = inv.disks;
      replans = omega (arith, ap length items, length-append old (replan ∷ []), ap (λ (d : DraftValue). length d.replans) c.self.view_is);
      replan = subst (All (λ r. length r.disks ≤ MOST_DISKS)) (sym items) (all_push (λ (r : ReplanSaid). length r.disks ≤ MOST_DISKS) old replan inv.replan c.in_ok-replan.ensures.few);
      updates = inv.updates;
      updaters = inv.updaters;
      update_count = inv.update_count;
      readers = inv.readers;
      queries = inv.queries;
      query_count = inv.query_count;
    }
