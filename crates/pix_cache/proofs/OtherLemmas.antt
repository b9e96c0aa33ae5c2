-- What a newcomer leaves of the copies of other items.
use Rattle.std.proofs.Common.{◌≡◌, ◌≢◌, ℕ, ◌<◌, Bool, true, false, if◌then◌else◌, List, length, get_or, Option, Some, None, refl, sym, ◌∙◌, ap, arith, length-set}
use Rattle.std.specs.Option.{option_map}
use Rattle.std.proofs.Math.ListN.{set}
use Rattle.std.proofs.lemmas.List.{get_or-set_other}
use Rattle.pix_cache.specs.declared.leaf.Leaf.{Leaf}
use Rattle.pix_cache.specs.declared.cache.KeepAnswer.{KeepAnswer}
use Rattle.pix_cache.specs.declared.cache.KeepAnswer.TheVariants.{Evicted, Placed}
use Rattle.pix_cache.specs.declared.cache.PixCache.TheInside.{Inside}
use Rattle.pix_cache.specs.Stores.{StoredCopy}
use Rattle.pix_cache.specs.Leaves.{nowhere}
use Rattle.pix_cache.specs.Caches.{Cache, copy_among}
use Rattle.pix_cache.specs.CacheFields.{KeepsCopies, cache_of, copies_in_store, somes, stored_read}
use Rattle.pix_cache.proofs.SomeLemmas.{copy_is}
use Rattle.pix_cache.proofs.CacheLemmas.{at_place, long, placed, same_read}
use Rattle.pix_cache.proofs.FieldLemmas.{within}

module _ (i : Inside) (k : KeepsCopies i) (self : Cache) (view : cache_of i ≡ self) (other : ℕ) (asked : other < length self.pix) where
  -- An item keeps its copy if it keeps its place and only the other copy slot changes.
  copy_stays : (copy_slot : ℕ) (st : StoredCopy) (new : List StoredCopy) → new ≡ set i.store.stores copy_slot st → (rest : List (Option ℕ)) → length rest ≡ length i.places.items → get_or rest other None ≡ get_or i.places.items other None →
      get_or i.places.items other None ≢ Some copy_slot → copy_among other (somes (copies_in_store new rest)) ≡ copy_among other self.copies
  copy_stays copy_slot st new put rest size kept apart =
      let stores = i.store.stores in
      let places = i.places.items in
      let here = within i k self view other asked in
      copy_is (copies_in_store new rest) other (omega (arith, long new rest)) (placed new rest)
      ∙ at_place new rest other (omega arith)
      ∙ ap (option_map (stored_read new other)) kept
      ∙ ap (λ (t : List StoredCopy). option_map (stored_read t other) (get_or places other None)) put
      ∙ same_read stores copy_slot st other (get_or places other None) apart
      ∙ sym (at_place stores places other here)
      ∙ sym (copy_is (copies_in_store stores places) other (omega (arith, long stores places)) (placed stores places))
      ∙ ap (λ (s : Cache). copy_among other s.copies) view

  -- If a copy is replaced, the others stay.
  pub stays_beside : (item : ℕ) → item < length self.pix → (copy_slot : ℕ) → get_or i.places.items item None ≡ Some copy_slot → (st : StoredCopy) (new : List StoredCopy) → new ≡ set i.store.stores copy_slot st → other ≢ item →
      copy_among other (somes (copies_in_store new i.places.items)) ≡ copy_among other self.copies
  stays_beside item here copy_slot its st new put ne = copy_stays copy_slot st new put i.places.items refl refl (λ e.
      ne (ap (λ (b : Leaf). b.item) (sym (k.agree.leaf other copy_slot (within i k self view other asked) e) ∙ k.agree.leaf item copy_slot (within i k self view item here) its)))

  -- If a newcomer takes a copy slot, the others stay except the one that gives way.
  module _ (r : Leaf) (at : get_or i.tree r.copy_slot nowhere ≡ r) (answer : KeepAnswer) (said : answer ≡ (if r.kept then Evicted r.item else Placed)) (ne : answer ≢ Evicted other) where
    gave_way : r.kept ≡ true → r.item ≡ other → ⊥
    gave_way kept same = ne (said ∙ ap (λ (b : Bool). if b then Evicted r.item else Placed) kept ∙ ap Evicted same)

    left_as : (b : Bool) → r.kept ≡ b → get_or (if b then set i.places.items r.item None else i.places.items) other None ≡ get_or i.places.items other None
    left_as true e = get_or-set_other i.places.items r.item other None None (λ same. gave_way e (sym same))
    left_as false e = refl

    left_long : (b : Bool) → length (if b then set i.places.items r.item None else i.places.items) ≡ length i.places.items
    left_long true = length-set i.places.items r.item None
    left_long false = refl

    apart : get_or i.places.items other None ≢ Some r.copy_slot
    apart e =
        let leaf = sym at ∙ k.agree.leaf other r.copy_slot (within i k self view other asked) e in
        gave_way (ap (λ (b : Leaf). b.kept) leaf) (ap (λ (b : Leaf). b.item) leaf)

    -- An item's copy stays while the newcomer takes that copy slot.
    pub stays_behind : (item : ℕ) → other ≢ item → (rest : List (Option ℕ)) → rest ≡ (if r.kept then set i.places.items r.item None else i.places.items) → (st : StoredCopy) (new : List StoredCopy) → new ≡ set i.store.stores r.copy_slot st →
        copy_among other (somes (copies_in_store new (set rest item (Some r.copy_slot)))) ≡ copy_among other self.copies
    stays_behind item apart_from rest left st new put = copy_stays r.copy_slot st new put (set rest item (Some r.copy_slot))
        (length-set rest item (Some r.copy_slot) ∙ ap length left ∙ left_long r.kept)
        (get_or-set_other rest item other (Some r.copy_slot) None apart_from ∙ ap (λ p. get_or p other None) left ∙ left_as r.kept refl)
        apart
