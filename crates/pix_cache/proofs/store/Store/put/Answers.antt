use Rattle.std.proofs.Common.{rules, ◌≡◌, ◌<◌, ◌+◌, ◌-◌, ◌*◌, ◌∙◌, List, length, sym, ap, arith}
use Rattle.std.specs.Prelude.{slice_set}
use Rattle.std.proofs.lemmas.List.{with_items_is}
use Rattle.pix_cache.specs.declared.store.CopySlot.{CopySlot}
use Rattle.std.proofs.Math.ListN.{set}
use borrow.Rule.Slice.PartMut.{put_mid}
use Rattle.pix_cache.specs.Stores.{Store, StoredCopy, stored_copy}
use Rattle.pix_cache.specs.Private.StoreFields.{stored_of}
use Rattle.pix_cache.proofs.StoreLemmas.{column_before, length_put, store_put, stores_len}
use Rattle.pix_cache.proofs.store.Store.put.Goals as goal

pub index_mut-requires : goal.index_mut-requires
index_mut-requires c =
    let as_many = ap (λ (s : Store). length s.stores) c.self.view_is in
    omega (arith, stores_len c.self.inside.n c.self.inside.copy_slots.items c.self.inside.entries.items, c.requires.within, c.self.inside.copy_slots.ok.0)

pub slice_bounds-copy_from_slice-end : goal.slice_bounds-copy_from_slice-end
slice_bounds-copy_from_slice-end c =
    let as_many = ap (λ (s : Store). length s.stores) c.self.view_is in
    let within : c.args.copy_slot < length c.self.inside.copy_slots.items = omega (arith, stores_len c.self.inside.n c.self.inside.copy_slots.items c.self.inside.entries.items, c.requires.within) in
    let ends = column_before c.args.copy_slot (length c.self.inside.copy_slots.items) c.self.inside.n within in
    omega (arith, c.self.invariant.sized, c.deref_mut.ensures.len, c.self.inside.entries.ok.0)

pub returns : goal.returns
returns c =
    let n = c.self.inside.n in
    let copy_slots = c.self.inside.copy_slots.items in
    let entries = c.self.inside.entries.items in
    let as_many = ap (λ (s : Store). length s.stores) c.self.view_is in
    let wide = ap (λ (s : Store). s.width) c.self.view_is in
    let within : c.args.copy_slot < length copy_slots = omega (arith, stores_len n copy_slots entries, c.requires.within) in
    let ends = column_before c.args.copy_slot (length copy_slots) n within in
    let copied : c.copy_from_slice.new.self ≡ c.args.column.now = search rules in
    let sized : length c.copy_from_slice.new.self ≡ n = ap length copied ∙ c.requires.sized ∙ sym wide in
    let it : CopySlot = record { cycle = c.args.cycle; value = c.args.value } in
    let from = c.args.copy_slot * n in
    let k = from + n - from in
    let long = length_put from k c.deref_mut.result.now c.copy_from_slice.new.self (omega (arith, c.self.invariant.sized, ap length c.deref_mut.ensures.value)) (omega (arith, sized)) in
    let put = with_items_is c.self.inside.entries (put_mid from k c.deref_mut.result.now c.copy_from_slice.new.self) (long ∙ ap length c.deref_mut.ensures.value ∙ sym c.self.inside.entries.ok.0)
    ∙ ap (λ xs. put_mid from k xs c.copy_from_slice.new.self) c.deref_mut.ensures.value in
    ap (λ (stores : List StoredCopy). let s : Store = record { width = n; stores = stores } in s)
    (ap (stored_of n (set copy_slots c.args.copy_slot it)) put
    ∙ store_put n copy_slots entries c.copy_from_slice.new.self c.args.copy_slot k it (omega arith) within c.self.invariant.sized sized
    ∙ ap (λ xs. slice_set (stored_of n copy_slots entries) c.args.copy_slot (stored_copy c.args.cycle c.args.value xs)) copied)
    ∙ ap (λ (s : Store). let t : Store = record s { stores = slice_set s.stores c.args.copy_slot (stored_copy c.args.cycle c.args.value c.args.column.now) } in t) c.self.view_is
