use Rattle.std.proofs.Common.{◌≡◌, ◌<◌, ◌+◌, ◌-◌, ◌*◌, ◌∙◌, length, get_or, take, drop, sym, ap, arith}
use Rattle.std.proofs.lemmas.List.{get_or_default}
use Rattle.pix_cache.specs.declared.store.CopySlot.{CopySlot}
use Rattle.pix_cache.specs.Stores.{Store, no_store, stored_copy}
use Rattle.pix_cache.specs.Private.StoreFields.{no_copy_slot}
use Rattle.pix_cache.proofs.StoreLemmas.{column_before, store_at, stores_len}
use Rattle.pix_cache.proofs.store.Store.get.Goals as goal

pub index-held-requires : goal.index-held-requires
index-held-requires c =
    let as_many = ap (λ (s : Store). length s.stores) c.self.view_is in
    omega (arith, stores_len c.self.inside.n c.self.inside.copy_slots.items c.self.inside.entries.items, c.requires, c.self.inside.copy_slots.ok.0)

pub slice_bounds-result-end : goal.slice_bounds-result-end
slice_bounds-result-end c =
    let as_many = ap (λ (s : Store). length s.stores) c.self.view_is in
    let within : c.args.copy_slot < length c.self.inside.copy_slots.items = omega (arith, stores_len c.self.inside.n c.self.inside.copy_slots.items c.self.inside.entries.items, c.requires) in
    let ends = column_before c.args.copy_slot (length c.self.inside.copy_slots.items) c.self.inside.n within in
    omega (arith, c.self.invariant.sized, c.deref.ensures.len, c.self.inside.entries.ok.0)

pub returns : goal.returns
returns c =
    let n = c.self.inside.n in
    let copy_slots = c.self.inside.copy_slots.items in
    let entries = c.self.inside.entries.items in
    let as_many = ap (λ (s : Store). length s.stores) c.self.view_is in
    let within : c.args.copy_slot < length copy_slots = omega (arith, stores_len n copy_slots entries, c.requires) in
    let held : get_or copy_slots c.args.copy_slot no_copy_slot ≡ c.index-held.result.now = get_or_default copy_slots c.args.copy_slot no_copy_slot c.index-held.result.now within ∙ sym c.index-held.ensures in
    ap (λ (s : Store). get_or s.stores c.args.copy_slot no_store) (sym c.self.view_is)
    ∙ store_at n copy_slots entries c.args.copy_slot no_store within
    ∙ ap (λ (s : CopySlot). stored_copy s.cycle s.value (take n (drop (c.args.copy_slot * n) entries))) held
    ∙ ap (λ k. stored_copy c.index-held.result.now.cycle c.index-held.result.now.value (take k (drop (c.args.copy_slot * n) entries))) (let e : n ≡ c.args.copy_slot * n + n - c.args.copy_slot * n = omega arith in e)
    ∙ ap (λ xs. stored_copy c.index-held.result.now.cycle c.index-held.result.now.value (take (c.args.copy_slot * n + n - c.args.copy_slot * n) (drop (c.args.copy_slot * n) xs))) (sym c.deref.ensures.value)
