-- The fields of a cache, as each call finds them, and what each call's clauses say of the fields that it leaves.
use Rattle.std.proofs.Common.{◌≡◌, ℕ, ◌<◌, ◌≤◌, if◌then◌else◌, List, length, get_or, All, Option, Some, None, refl, sym, ◌∙◌, ap, subst, arith, length-set}
use Rattle.std.proofs.Math.ListN.{set}
use Rattle.air_model.specs.Reads.{Read, read_with}
use Rattle.air_model.specs.Copies.{keep, with_copy, without_item}
use Rattle.pix_cache.specs.declared.leaf.Leaf.{Leaf}
use Rattle.pix_cache.specs.declared.cache.PixCache.TheInside.{Inside}
use Rattle.pix_cache.specs.declared.cache.KeepAnswer.{KeepAnswer}
use Rattle.pix_cache.specs.declared.cache.KeepAnswer.TheVariants.{Evicted, Placed}
use Rattle.pix_cache.specs.Private.KeepAnswers.{IsKeepAnswer}
use Rattle.pix_cache.specs.Stores.{StoredCopy}
use Rattle.pix_cache.specs.Leaves.{copy_leaf, nowhere, weight}
use Rattle.pix_cache.specs.Caches.{Cache, IsLeastCopy, copy_among}
use Rattle.pix_cache.specs.CacheFields.{Agree, KeepsCopies, cache_of, copies_in_store, somes, stored_read}
use Rattle.pix_cache.proofs.AgreeLemmas.{new_leaf}
use Rattle.pix_cache.proofs.CacheLemmas.{kept_copy, no_copy}
use Rattle.pix_cache.proofs.KeepLemmas.{Outcome, all_before, declined, declined_full, kept_form, outcome, replaced}

module _ (i : Inside) (k : KeepsCopies i) (self : Cache) (view : cache_of i ≡ self) (item : ℕ) (asked : item < length self.pix) where
  abbrev places : List (Option ℕ)
  places = i.places.items

  abbrev stores : List StoredCopy
  stores = i.store.stores

  -- The item has a place.
  pub within : item < length i.places.items
  within = let wide = ap (λ (s : Cache). length s.pix) view in omega (arith, k.items)

  -- There is a leaf for each copy slot.
  pub same : length i.store.stores ≡ length i.tree
  same = sym k.copy_slots

  -- There are at most as many places as item numbers.
  pub small : length i.places.items ≤ 65536
  small = omega (arith, k.items, k.many)

  -- The copy slot of an item's copy is one of the copy slots.
  pub in_copy_slots : (copy_slot : ℕ) → get_or i.places.items item None ≡ Some copy_slot → copy_slot < length i.store.stores
  in_copy_slots copy_slot e = let l = k.agree.within item copy_slot within e in omega (arith, k.copy_slots)

  -- An item without a copy slot has no copy.
  pub has_none : get_or i.places.items item None ≡ None → copy_among item self.copies ≡ None
  has_none none = subst (λ (s : Cache). copy_among item s.copies ≡ None) view (no_copy stores places item within none)

  -- An item's copy is what its copy slot holds.
  pub has_copy : (copy_slot : ℕ) → get_or i.places.items item None ≡ Some copy_slot → copy_among item self.copies ≡ Some (stored_read i.store.stores item copy_slot)
  has_copy copy_slot e = subst (λ (s : Cache). copy_among item s.copies ≡ Some (stored_read stores item copy_slot)) view (kept_copy stores places item copy_slot within e)

  -- The cache with other copies.
  with_copies : (new copies : List Read) → new ≡ copies → ◌≡◌ {A = Cache} (record { room = length stores; pix = i.pix.items; copies = new }) (record { room = length stores; pix = i.pix.items; copies = copies })
  with_copies new copies e = ap {B = Cache} (λ (c : List Read). record { room = length stores; pix = i.pix.items; copies = c }) e

  -- The clause of a drop, by the places that are left.
  pub drop_form : (rest : List (Option ℕ)) → somes (copies_in_store i.store.stores rest) ≡ without_item item (somes (copies_in_store i.store.stores i.places.items)) →
      ◌≡◌ {A = Cache} (record { room = length i.store.stores; pix = i.pix.items; copies = somes (copies_in_store i.store.stores rest) }) (record { room = self.room; pix = self.pix; copies = without_item item self.copies })
  drop_form rest e = with_copies (somes (copies_in_store stores rest)) (without_item item (somes (copies_in_store stores places))) e
      ∙ ap {B = Cache} (λ (s : Cache). record { room = s.room; pix = s.pix; copies = without_item item s.copies }) view

  -- A copy over that of its item.
  module _ (st : StoredCopy) where
    abbrev x : Read
    x = read_with item st.cycle st.value st.entries

    -- The copies are those that are kept of all copies and the newcomer.
    pub replace_form : (copy_slot : ℕ) → get_or i.places.items item None ≡ Some copy_slot → (new : List StoredCopy) → new ≡ set i.store.stores copy_slot st →
        ◌≡◌ {A = Cache} (record { room = length new; pix = i.pix.items; copies = somes (copies_in_store new i.places.items) }) (record { room = self.room; pix = self.pix; copies = keep self.room self.pix (with_copy (read_with item st.cycle st.value st.entries) self.copies) })
    replace_form copy_slot e new put =
        kept_form i.pix.items (length stores) (length i.tree) (length new) (somes (copies_in_store stores places)) _ x self view k.copy_slots (ap length put ∙ length-set stores copy_slot st)
        (replaced i.pix.items places i.tree stores k.agree same small item within st copy_slot e ∙ ap (λ (t : List StoredCopy). somes (copies_in_store t places)) (sym put))

    -- A newcomer that is lighter than all.
    module _ (none : get_or i.places.items item None ≡ None) (pix : ℕ) (number : get_or i.pix.items item 0 ≡ pix) (light : All (λ a. weight (copy_leaf 0 pix item) < weight a) i.tree) where
      lighter : (s : ℕ) → s < length i.tree → weight (new_leaf i.pix.items item 0) < weight (get_or i.tree s nowhere)
      lighter s l = let w = light s nowhere l in let n = ap (λ p. weight (copy_leaf 0 p item)) number in omega arith

      -- The copies before are those that are kept of them and the newcomer.
      pub decline_form : self ≡ record { room = self.room; pix = self.pix; copies = keep self.room self.pix (with_copy (read_with item st.cycle st.value st.entries) self.copies) }
      decline_form = sym view
          ∙ kept_form i.pix.items (length stores) (length i.tree) (length stores) (somes (copies_in_store stores places)) _ x self view k.copy_slots refl (declined i.pix.items places i.tree stores k.agree same small item within st none 0 lighter)

      -- The newcomer is the least of all.
      pub decline_answer : IsLeastCopy self.room self.pix self.copies (read_with item st.cycle st.value st.entries)
      decline_answer = subst (λ (s : Cache). IsLeastCopy s.room s.pix s.copies x) view (
        (no_copy stores places item within none, (let full = declined_full i.pix.items places i.tree stores k.agree same small item within st none 0 lighter in omega (arith, k.copy_slots))),
        all_before i.pix.items places i.tree stores k.agree same small item within st none 0 lighter,
      )

    -- A newcomer in the lightest copy slot, from what is left of the places, of what the copy slots hold, and of the tree.
    module _ (none : get_or i.places.items item None ≡ None) (pix : ℕ) (number : get_or i.pix.items item 0 ≡ pix) (r : Leaf) (lr : r.copy_slot < length i.tree) (at : get_or i.tree r.copy_slot nowhere ≡ r)
        (heavy : weight r ≤ weight (copy_leaf 0 pix item)) (light : All (λ a. weight r ≤ weight a) i.tree) (rest : List (Option ℕ)) (left : rest ≡ (if r.kept then set i.places.items r.item None else i.places.items)) where
      heavier : weight r ≤ weight (new_leaf i.pix.items item 0)
      heavier = let n = ap (λ p. weight (copy_leaf 0 p item)) number in omega arith

      taken : (answer : KeepAnswer) → answer ≡ (if r.kept then Evicted r.item else Placed) → Outcome i.pix.items places i.tree stores k.agree same small item within st none r lr at heavier light rest answer
      taken answer said = subst (λ p. Outcome i.pix.items places i.tree stores k.agree same small item within st none r lr at heavier light p answer) (sym left)
          (subst (Outcome i.pix.items places i.tree stores k.agree same small item within st none r lr at heavier light (if r.kept then set places r.item None else places)) (sym said)
          (outcome i.pix.items places i.tree stores k.agree same small item within st none r lr at heavier light))

      -- Copy slots and items agree once the copy slot has changed hands.
      pub take_agree : (tree : List Leaf) → tree ≡ set i.tree r.copy_slot (copy_leaf r.copy_slot pix item) → Agree i.pix.items (set rest item (Some r.copy_slot)) tree
      take_agree tree put = subst (Agree i.pix.items (set rest item (Some r.copy_slot))) (ap (λ p. set i.tree r.copy_slot (copy_leaf r.copy_slot p item)) number ∙ sym put) (taken _ refl).0

      -- The copies are those that are kept of all copies and the newcomer.
      pub take_form : (new : List StoredCopy) → new ≡ set i.store.stores r.copy_slot st →
          ◌≡◌ {A = Cache} (record { room = length new; pix = i.pix.items; copies = somes (copies_in_store new (set rest item (Some r.copy_slot))) }) (record { room = self.room; pix = self.pix; copies = keep self.room self.pix (with_copy (read_with item st.cycle st.value st.entries) self.copies) })
      take_form new put =
          kept_form i.pix.items (length stores) (length i.tree) (length new) (somes (copies_in_store stores places)) _ x self view k.copy_slots (ap length put ∙ length-set stores r.copy_slot st)
          ((taken _ refl).1 ∙ ap (λ (t : List StoredCopy). somes (copies_in_store t (set rest item (Some r.copy_slot)))) (sym put))

      -- The answer says what was done with the newcomer.
      pub take_answer : (answer : KeepAnswer) → answer ≡ (if r.kept then Evicted r.item else Placed) → IsKeepAnswer self.room self.pix self.copies (read_with item st.cycle st.value st.entries) answer
      take_answer answer said = subst (λ (s : Cache). IsKeepAnswer s.room s.pix s.copies x answer) view
          (subst (λ n. IsKeepAnswer n i.pix.items (somes (copies_in_store stores places)) x answer) k.copy_slots (taken answer said).2)
