use Rattle.std.proofs.Common.{◌≡◌, ◌∙◌, length, Some, None, sym, ap, subst, arith, length-set}
use Rattle.std.proofs.Math.ListN.{set}
use Rattle.pix_cache.specs.declared.leaf.Leaf.{Leaf}
use Rattle.pix_cache.specs.Leaves.{empty_leaf}
use Rattle.pix_cache.specs.CacheFields.{Agree}
use Rattle.pix_cache.proofs.AgreeLemmas.{agree_drop}
use Rattle.pix_cache.proofs.CacheLemmas.{dropped, none_dropped, read_place}
use Rattle.pix_cache.proofs.FieldLemmas.{drop_form, within}
use Rattle.pix_cache.proofs.cache.PixCache.drop_copy.Goals as goal

pub put-requires : goal.put-requires
put-requires c =
    let places = c.self.inside.places.items in
    let here = within c.self.inside c.self.invariant c.args.self.now c.self.view_is c.args.item c.requires in
    let some = read_place places c.args.item c.index.result.now (Some c.in-Some.copy_slot) here c.index.ensures c.in-Some.is in
    let l = c.self.invariant.agree.within c.args.item c.in-Some.copy_slot here some in
    let copy_slot = ap (λ (x : Leaf). x.copy_slot) c.empty.ensures in
    omega arith

pub invariant_of-self : goal.invariant_of-self
invariant_of-self c =
    let places = c.self.inside.places.items in
    let tree = c.self.inside.tree in
    let here = within c.self.inside c.self.invariant c.args.self.now c.self.view_is c.args.item c.requires in
    let some = read_place places c.args.item c.index.result.now (Some c.in-Some.copy_slot) here c.index.ensures c.in-Some.is in
    let l = c.self.invariant.agree.within c.args.item c.in-Some.copy_slot here some in
    let put : c.put.new.self ≡ set tree c.in-Some.copy_slot (empty_leaf c.in-Some.copy_slot) = c.put.ensures ∙ ap (λ (x : Leaf). set tree x.copy_slot x) c.empty.ensures in
    record {
      few = c.self.invariant.few;
      many = c.self.invariant.many;
      items = length-set places c.args.item None ∙ c.self.invariant.items;
      width = c.self.invariant.width;
      copy_slots = ap length put ∙ length-set tree c.in-Some.copy_slot (empty_leaf c.in-Some.copy_slot) ∙ c.self.invariant.copy_slots;
      agree = subst (Agree c.self.inside.pix.items (set places c.args.item None)) (sym put)
          (agree_drop c.self.inside.pix.items places tree c.args.item c.in-Some.copy_slot c.self.invariant.agree here l some);
    }

pub returns-in-Some : goal.returns-in-Some
returns-in-Some c =
    let places = c.self.inside.places.items in
    let here = within c.self.inside c.self.invariant c.args.self.now c.self.view_is c.args.item c.requires in
    drop_form c.self.inside c.self.invariant c.args.self.now c.self.view_is c.args.item c.requires (set places c.args.item None) (dropped c.self.inside.store.stores places c.args.item here)

pub returns-in_default : goal.returns-in_default
returns-in_default c =
    let places = c.self.inside.places.items in
    let here = within c.self.inside c.self.invariant c.args.self.now c.self.view_is c.args.item c.requires in
    let none = read_place places c.args.item c.index.result.now None here c.index.ensures c.in_default.is in
    sym c.self.view_is
    ∙ drop_form c.self.inside c.self.invariant c.args.self.now c.self.view_is c.args.item c.requires places (none_dropped c.self.inside.store.stores places c.args.item here none)
