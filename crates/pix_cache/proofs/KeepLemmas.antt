-- What is done with a newcomer: by its item's copy, by an empty copy slot, or by the weight of the least copy.
use Rattle.std.proofs.Common.{◌≡◌, ◌≢◌, ℕ, ◌+◌, ◌<◌, ◌≤◌, Bool, true, false, ◌==◌, if◌then◌else◌, List, length, get_or, All, Option, Some, None, IsTrue, refl, sym, ◌∙◌, ap, subst, arith, ◌⊎◌, inl, inr, length-set}
use Rattle.std.specs.List.{count_by}
use Rattle.std.specs.Option.{is_some, option_map}
use Rattle.std.proofs.Math.ListN.{set}
use Rattle.std.proofs.lemmas.Bool.{cases_eq, eq-eqb}
use Rattle.std.proofs.lemmas.List.{get_or-set_other, get_or-set_same, get_or_default, set-get_or, set-set}
use Rattle.std.proofs.lemmas.List.Sums.{count_by-le-length}
use Rattle.air_model.specs.Reads.{Read, read_with}
use Rattle.air_model.specs.Copies.{goes_before, keep, with_copy}
use Rattle.air_model.proofs.CopyOrders.{keep_all}
use Rattle.pix_cache.specs.declared.leaf.Leaf.{Leaf}
use Rattle.pix_cache.specs.declared.cache.KeepAnswer.{KeepAnswer}
use Rattle.pix_cache.specs.declared.cache.KeepAnswer.TheVariants.{Evicted, Placed}
use Rattle.pix_cache.specs.Private.KeepAnswers.{IsKeepAnswer}
use Rattle.pix_cache.specs.Stores.{StoredCopy}
use Rattle.pix_cache.specs.Leaves.{nowhere, weight}
use Rattle.pix_cache.specs.Caches.{Cache}
use Rattle.pix_cache.specs.CacheFields.{Agree, copies_in_store, somes, stored_read}
use Rattle.pix_cache.proofs.SomeLemmas.{all_somes, count_somes, with_is}
use Rattle.pix_cache.proofs.AgreeLemmas.{agree_put, counts, handed_on, new_leaf}
use Rattle.pix_cache.proofs.CacheLemmas.{at_place, by_place, cleared_is, how_many, kept_copy, long, no_copy, placed, put_is}
use Rattle.pix_cache.proofs.OrderLemmas.{all_pass, goes, heavy_kept, least_out, some_fails}

module _ (pix : List ℕ) (places : List (Option ℕ)) (leaves : List Leaf) (stores : List StoredCopy) (a : Agree pix places leaves) (same : length stores ≡ length leaves) (small : length places ≤ 65536)
    (item : ℕ) (li : item < length places) (st : StoredCopy) where
  abbrev os : List (Option Read)
  os = copies_in_store stores places

  abbrev copies : List Read
  copies = somes (copies_in_store stores places)

  abbrev x : Read
  x = read_with item st.cycle st.value st.entries

  long_os : item < length os
  long_os = omega (arith, long stores places)

  size : length copies ≡ count_by (λ (l : Leaf). l.kept) leaves
  size = how_many stores places ∙ a.counted

  joined : with_copy x copies ≡ somes (set os item (Some x))
  joined = with_is os item long_os x refl (placed stores places)

  -- The item's own copy.
  alone : (copy_slot : ℕ) → get_or places item None ≡ Some copy_slot → (k : ℕ) → k < length places → k ≢ item → get_or places k None ≢ Some copy_slot
  alone copy_slot e k l ne f = ne (ap (λ (b : Leaf). b.item) (sym (a.leaf k copy_slot l f) ∙ a.leaf item copy_slot li e))

  -- A copy in place of that of its item: all stay.
  pub replaced : (copy_slot : ℕ) → get_or places item None ≡ Some copy_slot → keep (length leaves) pix (with_copy x copies) ≡ somes (copies_in_store (set stores copy_slot st) places)
  replaced copy_slot e =
      let within = a.within item copy_slot li e in
      ap (keep (length leaves) pix) joined
      ∙ keep_all (length leaves) pix (somes (set os item (Some x)))
      (let n = count_somes (set os item (Some x)) in
      let m = count_somes os in
      let one = counts is_some os item (Some x) None true true long_os (ap is_some (at_place stores places item li ∙ ap (option_map (stored_read stores item)) e)) refl in
      let few = count_by-le-length (λ (l : Leaf). l.kept) leaves in
      let s = size in omega arith)
      ∙ sym (ap somes (ap (copies_in_store (set stores copy_slot st)) (sym (ap (set places item) (sym e) ∙ set-get_or places item None))
      ∙ put_is stores places item copy_slot st li (omega arith) (alone copy_slot e)))

  module _ (none : get_or places item None ≡ None) where
    nothing_here : get_or os item None ≡ None
    nothing_here = at_place stores places item li ∙ ap (option_map (stored_read stores item)) none

    one_more : length (somes (set os item (Some x))) ≡ length copies + 1
    one_more =
        let n = count_somes (set os item (Some x)) in
        let m = count_somes os in
        let one = counts is_some os item (Some x) None false true long_os (ap is_some nothing_here) refl in
        omega arith

    -- A free copy slot.
    free_alone : (copy_slot : ℕ) → (get_or leaves copy_slot nowhere).kept ≡ false → (k : ℕ) → k < length places → k ≢ item → get_or places k None ≢ Some copy_slot
    free_alone copy_slot free k l ne f = let t : true ≡ false = sym (ap (λ (b : Leaf). b.kept) (a.leaf k copy_slot l f)) ∙ free in cc

    -- If a copy slot is empty, there are fewer copies than copy slots.
    pub fewer : (copy_slot : ℕ) → copy_slot < length leaves → (get_or leaves copy_slot nowhere).kept ≡ false → length copies < length leaves
    fewer copy_slot ls free = let f = some_fails (λ (l : Leaf). l.kept) leaves copy_slot nowhere ls free in let s = size in omega arith

    -- A newcomer in an empty copy slot: all stay.
    pub put_in : (copy_slot : ℕ) → copy_slot < length leaves → (get_or leaves copy_slot nowhere).kept ≡ false → keep (length leaves) pix (with_copy x copies) ≡ somes (copies_in_store (set stores copy_slot st) (set places item (Some copy_slot)))
    put_in copy_slot ls free =
        ap (keep (length leaves) pix) joined
        ∙ keep_all (length leaves) pix (somes (set os item (Some x))) (let f = fewer copy_slot ls free in let m = one_more in omega arith)
        ∙ sym (ap somes (put_is stores places item copy_slot st li (omega arith) (free_alone copy_slot free)))

    -- The leaf of another copy.
    leaf_of : (k : ℕ) (s : Read) → k < length places → get_or os k None ≡ Some s → (copy_slot : ℕ) × (copy_slot < length leaves) × (get_or leaves copy_slot nowhere ≡ new_leaf pix k copy_slot) × (s.item ≡ k)
    leaf_of k s l e = by (get_or places k None) refl (sym (at_place stores places k l) ∙ e)
      where
        by : (o : Option ℕ) → get_or places k None ≡ o → option_map (stored_read stores k) (get_or places k None) ≡ Some s → (copy_slot : ℕ) × (copy_slot < length leaves) × (get_or leaves copy_slot nowhere ≡ new_leaf pix k copy_slot) × (s.item ≡ k)
        by None f g = let h : None ≡ Some s = sym (ap (option_map (stored_read stores k)) f) ∙ g in cc
        by (Some copy_slot) f g =
            let h : Some (stored_read stores k copy_slot) ≡ Some s = sym (ap (option_map (stored_read stores k)) f) ∙ g in
            let i : stored_read stores k copy_slot ≡ s = cc in
            (copy_slot, a.within k copy_slot l f, a.leaf k copy_slot l f, sym (ap (λ (r : Read). r.item) i))

    -- If each copy slot has a weight above 0, all copy slots are taken.
    full : ((s : ℕ) → s < length leaves → 0 < weight (get_or leaves s nowhere)) → length copies ≡ length leaves
    full heavy = size ∙ all_pass (λ (l : Leaf). l.kept) leaves (λ k d l. subst (λ (b : Leaf). b.kept ≡ true) (get_or_default leaves k nowhere d l) (heavy_kept (get_or leaves k nowhere) (heavy k l)))

    -- The newcomer is lighter than each copy.
    module _ (n : ℕ) (lighter : (s : ℕ) → s < length leaves → weight (new_leaf pix item n) < weight (get_or leaves s nowhere)) where
      -- All copy slots are taken.
      pub declined_full : length copies ≡ length leaves
      declined_full = full (λ s l. let w = lighter s l in omega arith)

      behind : (k : ℕ) (s : Read) → k < length places → get_or os k None ≡ Some s → k ≢ item → goes_before pix s x ≡ true
      behind k s l e ne =
          let f = leaf_of k s l e in
          let w = lighter f.0 f.1 in
          let leaf = f.2 in
          let at = f.3 in
          let heavy = ap weight leaf in
          goes pix s x (new_leaf pix item n) (new_leaf pix k f.0) refl refl refl (sym at) refl (ap (λ j. get_or pix j 0) (sym at)) (omega arith) (omega arith) (λ i. ne (sym at ∙ sym i)) (omega arith)

      not_here : (k : ℕ) (s : Read) → get_or os k None ≡ Some s → k ≢ item
      not_here k s e i = let f : None ≡ Some s = sym nothing_here ∙ ap (λ j. get_or os j None) (sym i) ∙ e in cc

      -- Each kept copy goes before the newcomer.
      pub all_before : All (λ r. IsTrue (goes_before pix r x)) copies
      all_before = all_somes (λ r. IsTrue (goes_before pix r x)) os (λ k s l e. behind k s (omega (arith, long stores places)) e (not_here k s e))

      -- The copies before stay.
      pub declined : keep (length leaves) pix (with_copy x copies) ≡ copies
      declined =
          ap (keep (length leaves) pix) joined
          ∙ least_out (length leaves) pix (set os item (Some x)) item x (omega (arith, length-set os item (Some x), long_os)) (get_or-set_same os item (Some x) None long_os)
          (let m = one_more in let f = declined_full in omega arith)
          (λ k s l e ne. behind k s (omega (arith, length-set os item (Some x), long stores places)) (sym (get_or-set_other os item k (Some x) None ne) ∙ e) ne)
          ∙ ap somes (set-set os item (Some x) None ∙ ap (set os item) (sym nothing_here) ∙ set-get_or os item None)

    -- Another copy is lighter than each copy, and than the newcomer.
    module _ (m copy_slot n : ℕ) (lm : m < length places) (its : get_or places m None ≡ Some copy_slot) (least : (s : ℕ) → s < length leaves → weight (get_or leaves copy_slot nowhere) ≤ weight (get_or leaves s nowhere))
        (heavier : weight (get_or leaves copy_slot nowhere) ≤ weight (new_leaf pix item n)) where
      abbrev r : Read
      r = stored_read stores m copy_slot

      other_item : m ≢ item
      other_item i = let f : None ≡ Some copy_slot = sym none ∙ ap (λ j. get_or places j None) (sym i) ∙ its in cc

      some_weight : 0 < weight (get_or leaves copy_slot nowhere)
      some_weight = let e = ap weight (a.leaf m copy_slot lm its) in omega arith

      -- All copy slots are taken.
      pub evicted_full : length copies ≡ length leaves
      evicted_full = full (λ s l. let w = least s l in let p = some_weight in omega arith)

      -- The newcomer goes before the copy in that copy slot.
      pub newcomer_before : goes_before pix x r ≡ true
      newcomer_before =
          let e = ap weight (a.leaf m copy_slot lm its) in
          goes pix x r (new_leaf pix m copy_slot) (new_leaf pix item n) refl refl refl refl refl refl (omega arith) (omega arith) other_item (omega arith)

      rest_before : (k : ℕ) (s : Read) → k < length places → get_or os k None ≡ Some s → k ≢ m → goes_before pix s r ≡ true
      rest_before k s l e ne =
          let f = leaf_of k s l e in
          let w = least f.0 f.1 in
          let leaf = f.2 in
          let at = f.3 in
          let heavy = ap weight leaf in
          let light = ap weight (a.leaf m copy_slot lm its) in
          goes pix s r (new_leaf pix m copy_slot) (new_leaf pix k f.0) refl refl refl (sym at) refl (ap (λ j. get_or pix j 0) (sym at)) (omega arith) (omega arith) (λ i. ne (sym at ∙ sym i)) (omega arith)

      -- Each other copy goes before that copy too.
      pub least_last : All (λ s. IsTrue (s.item == m) ⊎ IsTrue (goes_before pix s r)) copies
      least_last = all_somes (λ s. IsTrue (s.item == m) ⊎ IsTrue (goes_before pix s r)) os (λ k s l e. by k s (omega (arith, long stores places)) e (cases_eq k m))
        where
          by : (k : ℕ) (s : Read) → k < length places → get_or os k None ≡ Some s → (k ≡ m) ⊎ (k ≡ m → ⊥) → IsTrue (s.item == m) ⊎ IsTrue (goes_before pix s r)
          by k s l e (inl i) = inl (eq-eqb s.item m ((leaf_of k s l e).3 ∙ i))
          by k s l e (inr ne) = inr (rest_before k s l e ne)

      held : get_or os m None ≡ Some r
      held = at_place stores places m lm ∙ ap (option_map (stored_read stores m)) its

      swapped : set (set os item (Some x)) m None ≡ set (set os m None) item (Some x)
      swapped = by_place (set (set os item (Some x)) m None) (set (set os m None) item (Some x))
          (length-set (set os item (Some x)) m None ∙ length-set os item (Some x) ∙ sym (length-set os m None) ∙ sym (length-set (set os m None) item (Some x)))
          (λ k l. by k (cases_eq k m) (cases_eq k item))
        where
          by : (k : ℕ) → (k ≡ m) ⊎ (k ≡ m → ⊥) → (k ≡ item) ⊎ (k ≡ item → ⊥) → get_or (set (set os item (Some x)) m None) k None ≡ get_or (set (set os m None) item (Some x)) k None
          by k (inl i) (inl j) = absurd (other_item (sym i ∙ j))
          by k (inl i) (inr nj) =
              ap (λ j. get_or (set (set os item (Some x)) m None) j None) i ∙ get_or-set_same (set os item (Some x)) m None None (omega (arith, length-set os item (Some x), long stores places))
              ∙ sym (get_or-set_other (set os m None) item k (Some x) None nj ∙ ap (λ j. get_or (set os m None) j None) i ∙ get_or-set_same os m None None (omega (arith, long stores places)))
          by k (inr ni) (inl j) =
              get_or-set_other (set os item (Some x)) m k None None ni ∙ ap (λ i. get_or (set os item (Some x)) i None) j ∙ get_or-set_same os item (Some x) None long_os
              ∙ sym (ap (λ i. get_or (set (set os m None) item (Some x)) i None) j ∙ get_or-set_same (set os m None) item (Some x) None (omega (arith, length-set os m None, long_os)))
          by k (inr ni) (inr nj) =
              get_or-set_other (set os item (Some x)) m k None None ni ∙ get_or-set_other os item k (Some x) None nj
              ∙ sym (get_or-set_other (set os m None) item k (Some x) None nj ∙ get_or-set_other os m k None None ni)

      left_alone : (k : ℕ) → k < length (set places m None) → k ≢ item → get_or (set places m None) k None ≢ Some copy_slot
      left_alone k l ne f = by (cases_eq k m)
        where
          by : (k ≡ m) ⊎ (k ≡ m → ⊥) → ⊥
          by (inl i) = let g : None ≡ Some copy_slot = sym (get_or-set_same places m None None lm) ∙ ap (λ j. get_or (set places m None) j None) (sym i) ∙ f in cc
          by (inr ni) = ni (ap (λ (b : Leaf). b.item) (sym (a.leaf k copy_slot (omega (arith, length-set places m None)) (sym (get_or-set_other places m k None None ni) ∙ f)) ∙ a.leaf m copy_slot lm its))

      -- The newcomer takes the copy slot of that copy, and all others stay.
      pub evicted : keep (length leaves) pix (with_copy x copies) ≡ somes (copies_in_store (set stores copy_slot st) (set (set places m None) item (Some copy_slot)))
      evicted =
          let within = a.within m copy_slot lm its in
          ap (keep (length leaves) pix) joined
          ∙ least_out (length leaves) pix (set os item (Some x)) m r (omega (arith, length-set os item (Some x), long stores places)) (get_or-set_other os item m (Some x) None other_item ∙ held)
          (let p = one_more in let f = evicted_full in omega arith)
          (λ k s l e ne. by k s (omega (arith, length-set os item (Some x), long stores places)) e ne (cases_eq k item))
          ∙ ap somes (swapped ∙ ap (λ o. set o item (Some x)) (sym (cleared_is stores places m lm)) ∙ sym (put_is stores (set places m None) item copy_slot st (omega (arith, length-set places m None)) (omega arith) left_alone))
        where
          by : (k : ℕ) (s : Read) → k < length places → get_or (set os item (Some x)) k None ≡ Some s → k ≢ m → (k ≡ item) ⊎ (k ≡ item → ⊥) → goes_before pix s r ≡ true
          by k s l e ne (inl i) =
              let f : Some x ≡ Some s = sym (get_or-set_same os item (Some x) None long_os) ∙ ap (λ j. get_or (set os item (Some x)) j None) (sym i) ∙ e in
              let g : x ≡ s = cc in subst (λ (t : Read). goes_before pix t r ≡ true) g newcomer_before
          by k s l e ne (inr nj) = rest_before k s l (sym (get_or-set_other os item k (Some x) None nj) ∙ e) ne

    -- The lightest copy slot, which the newcomer takes.
    module _ (r : Leaf) (lr : r.copy_slot < length leaves) (at : get_or leaves r.copy_slot nowhere ≡ r) (heavier : weight r ≤ weight (new_leaf pix item 0)) (light : All (λ b. weight r ≤ weight b) leaves) where
      -- What holds once the newcomer has that copy slot, from the places that were left.
      abbrev pub Outcome : List (Option ℕ) → KeepAnswer → Type 0
      Outcome rest answer = Agree pix (set rest item (Some r.copy_slot)) (set leaves r.copy_slot (new_leaf pix item r.copy_slot))
          × (keep (length leaves) pix (with_copy x copies) ≡ somes (copies_in_store (set stores r.copy_slot st) (set rest item (Some r.copy_slot))))
          × IsKeepAnswer (length leaves) pix copies x answer

      -- The copy slot changes hands: copy slots and items agree, the copies are those that are kept, and the answer is given.
      pub outcome : Outcome (if r.kept then set places r.item None else places) (if r.kept then Evicted r.item else Placed)
      outcome = by r.kept refl
        where
          weighs : weight (get_or leaves r.copy_slot nowhere) ≡ weight r
          weighs = ap weight at

          by : (b : Bool) → r.kept ≡ b → Outcome (if b then set places r.item None else places) (if b then Evicted r.item else Placed)
          by true e =
              let kept : (get_or leaves r.copy_slot nowhere).kept ≡ true = ap (λ (b : Leaf). b.kept) at ∙ e in
              let lm : r.item < length places = subst (λ (b : Leaf). b.item < length places) at (a.item r.copy_slot lr kept) in
              let its : get_or places r.item None ≡ Some r.copy_slot = subst (λ (b : Leaf). get_or places b.item None ≡ Some r.copy_slot) at (a.place r.copy_slot lr kept) in
              let least : (s : ℕ) → s < length leaves → weight (get_or leaves r.copy_slot nowhere) ≤ weight (get_or leaves s nowhere) = λ s l. (let w = light s nowhere l in let v = weighs in omega arith) in
              let heavy : weight (get_or leaves r.copy_slot nowhere) ≤ weight (new_leaf pix item r.copy_slot) = (let v = weighs in omega arith) in
              let full = evicted_full r.item r.copy_slot r.copy_slot lm its least heavy in (
                handed_on pix places leaves r.item item r.copy_slot a lm li lr its none,
                evicted r.item r.copy_slot r.copy_slot lm its least heavy,
                (
                  (no_copy stores places item li none, omega arith),
                  stored_read stores r.item r.copy_slot,
                  kept_copy stores places r.item r.copy_slot lm its,
                  newcomer_before r.item r.copy_slot r.copy_slot lm its least heavy,
                  least_last r.item r.copy_slot r.copy_slot lm its least heavy,
                ),
              )
          by false e =
              let free : (get_or leaves r.copy_slot nowhere).kept ≡ false = ap (λ (b : Leaf). b.kept) at ∙ e in (
                agree_put pix places leaves item r.copy_slot a li lr none free,
                put_in r.copy_slot lr free,
                (no_copy stores places item li none, fewer r.copy_slot lr free),
              )

-- The clause of an offer, from what the fields say.
pub kept_form : (pix : List ℕ) (copy_slots k n : ℕ) (kept new : List Read) (y : Read) (self : Cache) → ◌≡◌ {A = Cache} (record { room = copy_slots; pix = pix; copies = kept }) self → k ≡ copy_slots → n ≡ copy_slots →
    keep k pix (with_copy y kept) ≡ new → ◌≡◌ {A = Cache} (record { room = n; pix = pix; copies = new }) (record { room = self.room; pix = self.pix; copies = keep self.room self.pix (with_copy y self.copies) })
kept_form pix copy_slots k n kept new y self view ek en h =
    ap {B = Cache} (λ (m : ℕ). record { room = m; pix = pix; copies = new }) en
    ∙ ap {B = Cache} (λ (c : List Read). record { room = copy_slots; pix = pix; copies = c }) (sym h ∙ ap (λ m. keep m pix (with_copy y kept)) ek)
    ∙ ap {B = Cache} (λ (s : Cache). record { room = s.room; pix = s.pix; copies = keep s.room s.pix (with_copy y s.copies) }) view
