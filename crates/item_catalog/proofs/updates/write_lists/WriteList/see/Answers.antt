use Rattle.std.proofs.Common.{◌≡◌, ◌≤◌, ◌+◌, ◌∙◌, ◌++◌, ◌∷◌, [], false, true, ap, length, map, set, subst, sym, take}
use Rattle.std.specs.Prelude.{◌||◌}
use Rattle.air_history.specs.UpdateRules.{written_item}
use Rattle.air_base.specs.declared.limits.TheConstants.{MOST_ITEMS}
use Rattle.item_catalog.specs.KeptLists.{KeptOnce, WritesSeen, among, see_write}
use Rattle.item_catalog.specs.Private.WriteParts.{write_said}
use Rattle.item_catalog.proofs.RepeatLemmas.{or_false}
use Rattle.item_catalog.proofs.SeenLemmas.{or_true}
use Rattle.item_catalog.proofs.KeptOnceLemmas.{item_inside, one_taken, write_kept, write_room, writes_kept}
use Rattle.item_catalog.proofs.updates.write_lists.WriteList.see.Goals as goal

pub bounds-self-inside-self-inside : goal.bounds-self-inside-self-inside
bounds-self-inside-self-inside c =
    let l = c.self.inside in
    let w = write_said c.args.write in
    let inside = item_inside c.args.declared w (sym c.if-reaches.ensures) c.requires in
    write_room l.marks l.writes l.count c.self.told c.self.invariant.0 c.self.invariant.1 c.self.invariant.2 w inside c.if-self-place.false

pub invariant_of-self-then-is_unread : goal.invariant_of-self-then-is_unread
invariant_of-self-then-is_unread c =
    let l = c.self.inside in
    let w = write_said c.args.write in
    let inside = item_inside c.args.declared w (sym c.if-reaches.ensures) c.requires in
    let kept = writes_kept l.marks l.writes l.count c.self.told c.self.invariant.0 c.self.invariant.1 c.self.invariant.2 w inside c.if-self-place.false in
    subst (λ v. (length (set l.writes l.count v) ≡ MOST_ITEMS) × (l.count + 1 ≤ MOST_ITEMS) × KeptOnce (set l.marks c.args.write.item true) (map written_item (take (l.count + 1) (set l.writes l.count v)))) (sym c.narrow.ensures) kept

pub invariant_of-self-else-is_unread : goal.invariant_of-self-else-is_unread
invariant_of-self-else-is_unread c =
    let l = c.self.inside in
    let w = write_said c.args.write in
    let inside = item_inside c.args.declared w (sym c.if-reaches.ensures) c.requires in
    let kept = writes_kept l.marks l.writes l.count c.self.told c.self.invariant.0 c.self.invariant.1 c.self.invariant.2 w inside c.if-self-place.false in
    subst (λ v. (length (set l.writes l.count v) ≡ MOST_ITEMS) × (l.count + 1 ≤ MOST_ITEMS) × KeptOnce (set l.marks c.args.write.item true) (map written_item (take (l.count + 1) (set l.writes l.count v)))) (sym c.narrow.ensures) kept

pub returns-then-is_unread : goal.returns-then-is_unread
returns-then-is_unread c =
    let l = c.self.inside in
    let w = write_said c.args.write in
    let inside = item_inside c.args.declared w (sym c.if-reaches.ensures) c.requires in
    let old : WritesSeen = record { writes = take l.count l.writes; undeclared = l.undeclared; repeated = l.repeated; unread = l.unread } in
    let free : among (map written_item (take l.count l.writes)) w.item ≡ false = sym (c.self.invariant.2.marked w.item inside) ∙ c.if-self-place.false in
    let taken = one_taken l.marks l.writes l.count c.self.told c.self.invariant.0 c.self.invariant.1 c.self.invariant.2 w inside c.if-self-place.false in
    let more : take (l.count + 1) (set l.writes l.count c.narrow.result) ≡ take l.count l.writes ++ w ∷ [] = ap (λ v. take (l.count + 1) (set l.writes l.count v)) c.narrow.ensures ∙ taken in
    write_kept c.args.declared c.args.reads.now.items old w _ true (sym c.if-reaches.ensures) free more (sym (ap (λ b. l.unread || b) (sym c.if-is_unread.ensures) ∙ or_true l.unread))
    ∙ ap (λ s. see_write c.args.declared c.args.reads.now.items s w) c.self.view_is

pub returns-else-is_unread : goal.returns-else-is_unread
returns-else-is_unread c =
    let l = c.self.inside in
    let w = write_said c.args.write in
    let inside = item_inside c.args.declared w (sym c.if-reaches.ensures) c.requires in
    let old : WritesSeen = record { writes = take l.count l.writes; undeclared = l.undeclared; repeated = l.repeated; unread = l.unread } in
    let free : among (map written_item (take l.count l.writes)) w.item ≡ false = sym (c.self.invariant.2.marked w.item inside) ∙ c.if-self-place.false in
    let taken = one_taken l.marks l.writes l.count c.self.told c.self.invariant.0 c.self.invariant.1 c.self.invariant.2 w inside c.if-self-place.false in
    let more : take (l.count + 1) (set l.writes l.count c.narrow.result) ≡ take l.count l.writes ++ w ∷ [] = ap (λ v. take (l.count + 1) (set l.writes l.count v)) c.narrow.ensures ∙ taken in
    write_kept c.args.declared c.args.reads.now.items old w _ l.unread (sym c.if-reaches.ensures) free more (sym (ap (λ b. l.unread || b) (sym c.if-is_unread.ensures) ∙ or_false l.unread))
    ∙ ap (λ s. see_write c.args.declared c.args.reads.now.items s w) c.self.view_is
