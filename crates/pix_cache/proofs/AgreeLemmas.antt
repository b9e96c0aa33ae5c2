-- Copy slots and items agree after a copy was put into an empty copy slot, after a copy slot was emptied, and with other PIX
-- numbers.
use Rattle.std.proofs.Common.{◌≡◌, ◌≢◌, ℕ, suc, ◌+◌, ◌<◌, Bool, true, false, cond, if◌then◌else◌, List, [], ◌∷◌, length, map, get_or, Option, Some, None, refl, sym, ◌∙◌, ap, subst, arith, ◌⊎◌, inl, inr, length-set}
use Rattle.std.specs.List.{count_by}
use Rattle.std.specs.Option.{is_some}
use Rattle.std.proofs.Math.ListN.{set}
use Rattle.std.proofs.lemmas.Bool.{cases_eq, false≢true}
use Rattle.std.proofs.lemmas.List.{get_or-map, get_or-set_other, get_or-set_same, length-map, set-set}
use Rattle.std.proofs.lemmas.List.Sums.{sum_by-cons, sum_by-set}
use Rattle.pix_cache.specs.declared.leaf.Leaf.{Leaf}
use Rattle.pix_cache.specs.Leaves.{copy_leaf, empty_leaf, nowhere, renumbered_leaf}
use Rattle.pix_cache.specs.CacheFields.{Agree}

-- The leaf of a copy slot with an item's copy.
abbrev pub new_leaf : List ℕ → ℕ → ℕ → Leaf
new_leaf pix item copy_slot = copy_leaf copy_slot (get_or pix item 0) item

-- How a count changes if one element does.
pub counts : {X : Type 0} (p : X → Bool) (xs : List X) (i : ℕ) (y d : X) (was now : Bool) → i < length xs → p (get_or xs i d) ≡ was → p y ≡ now → count_by p (set xs i y) + cond was 1 0 ≡ count_by p xs + cond now 1 0
counts p xs i y d was now l e f =
    let s = sum_by-set (λ x. cond (p x) 1 0) xs i y d l in
    let a : ◌≡◌ {A = ℕ} (cond (p (get_or xs i d)) 1 0) (cond was 1 0) = ap (λ b. cond b 1 0) e in
    let b : ◌≡◌ {A = ℕ} (cond (p y) 1 0) (cond now 1 0) = ap (λ b. cond b 1 0) f in
    omega arith

-- If at each place two lists both pass or both fail, equally many of both pass.
count_alike : {X : Type 0} (p : X → Bool) (xs ys : List X) (d : X) → length xs ≡ length ys → ((k : ℕ) → k < length xs → p (get_or xs k d) ≡ p (get_or ys k d)) → count_by p xs ≡ count_by p ys
count_alike p [] [] d l h = refl
count_alike p [] (y ∷ ys) d l h = absurd (omega arith)
count_alike p (x ∷ xs) [] d l h = absurd (omega arith)
count_alike p (x ∷ xs) (y ∷ ys) d l h =
    let rest = count_alike p xs ys d (omega arith) (λ k m. h (suc k) (omega arith)) in
    let one = sum_by-cons (λ z. cond (p z) 1 0) x xs in
    let two = sum_by-cons (λ z. cond (p z) 1 0) y ys in
    let head : ◌≡◌ {A = ℕ} (cond (p x) 1 0) (cond (p y) 1 0) = ap (λ b. cond b 1 0) (h 0 (omega arith)) in
    omega arith

-- If no element passes, the count is 0.
no_count : {X : Type 0} (p : X → Bool) (xs : List X) (d : X) → ((k : ℕ) → k < length xs → p (get_or xs k d) ≡ false) → count_by p xs ≡ 0
no_count p [] d h = refl
no_count p (x ∷ xs) d h =
    let rest = no_count p xs d (λ k l. h (suc k) (omega arith)) in
    let head : ◌≡◌ {A = ℕ} (cond (p x) 1 0) 0 = ap (λ b. cond b 1 0) (h 0 (omega arith)) in
    let sum = sum_by-cons (λ z. cond (p z) 1 0) x xs in
    omega arith

module _ (pix : List ℕ) (places : List (Option ℕ)) (leaves : List Leaf) (item copy_slot : ℕ) (a : Agree pix places leaves) (li : item < length places) (ls : copy_slot < length leaves) where
  -- ---- a copy put into an empty copy slot
  module _ (none : get_or places item None ≡ None) (free : (get_or leaves copy_slot nowhere).kept ≡ false) where
    abbrev places_p : List (Option ℕ)
    places_p = set places item (Some copy_slot)

    abbrev leaves_p : List Leaf
    leaves_p = set leaves copy_slot (new_leaf pix item copy_slot)

    put_within : (i s : ℕ) → (i ≡ item) ⊎ (i ≡ item → ⊥) → i < length places → get_or places_p i None ≡ Some s → s < length leaves
    put_within i s (inl same) l e =
        let f : Some s ≡ Some copy_slot = sym e ∙ ap (λ k. get_or places_p k None) same ∙ get_or-set_same places item (Some copy_slot) None li in
        let g : s ≡ copy_slot = cc in omega arith
    put_within i s (inr other) l e = a.within i s l (sym (get_or-set_other places item i (Some copy_slot) None other) ∙ e)

    put_leaf : (i s : ℕ) → (i ≡ item) ⊎ (i ≡ item → ⊥) → i < length places → get_or places_p i None ≡ Some s → get_or leaves_p s nowhere ≡ new_leaf pix i s
    put_leaf i s (inl same) l e =
        let f : Some s ≡ Some copy_slot = sym e ∙ ap (λ k. get_or places_p k None) same ∙ get_or-set_same places item (Some copy_slot) None li in
        let g : s ≡ copy_slot = cc in
        ap (λ k. get_or leaves_p k nowhere) g ∙ get_or-set_same leaves copy_slot (new_leaf pix item copy_slot) nowhere ls ∙ ap (λ k. new_leaf pix item k) (sym g) ∙ ap (λ k. new_leaf pix k s) (sym same)
    put_leaf i s (inr other) l e =
        let was = a.leaf i s l (sym (get_or-set_other places item i (Some copy_slot) None other) ∙ e) in
        let apart : s ≢ copy_slot = λ same. false≢true (sym free ∙ ap (λ k. (get_or leaves k nowhere).kept) (sym same) ∙ ap (λ (x : Leaf). x.kept) was) in
        get_or-set_other leaves copy_slot s (new_leaf pix item copy_slot) nowhere apart ∙ was

    put_item : (s : ℕ) → (s ≡ copy_slot) ⊎ (s ≡ copy_slot → ⊥) → s < length leaves → (get_or leaves_p s nowhere).kept ≡ true → (get_or leaves_p s nowhere).item < length places
    put_item s (inl same) l k = subst (λ (x : Leaf). x.item < length places) (sym (ap (λ k. get_or leaves_p k nowhere) same ∙ get_or-set_same leaves copy_slot (new_leaf pix item copy_slot) nowhere ls)) li
    put_item s (inr other) l k =
        let e = get_or-set_other leaves copy_slot s (new_leaf pix item copy_slot) nowhere other in
        subst (λ (x : Leaf). x.item < length places) (sym e) (a.item s l (sym (ap (λ (x : Leaf). x.kept) e) ∙ k))

    put_place : (s : ℕ) → (s ≡ copy_slot) ⊎ (s ≡ copy_slot → ⊥) → s < length leaves → (get_or leaves_p s nowhere).kept ≡ true → get_or places_p (get_or leaves_p s nowhere).item None ≡ Some s
    put_place s (inl same) l k =
        ap (λ (x : Leaf). get_or places_p x.item None) (ap (λ k. get_or leaves_p k nowhere) same ∙ get_or-set_same leaves copy_slot (new_leaf pix item copy_slot) nowhere ls)
        ∙ get_or-set_same places item (Some copy_slot) None li ∙ ap Some (sym same)
    put_place s (inr other) l k =
        let e = get_or-set_other leaves copy_slot s (new_leaf pix item copy_slot) nowhere other in
        let was = a.place s l (sym (ap (λ (x : Leaf). x.kept) e) ∙ k) in
        let apart : (get_or leaves s nowhere).item ≢ item = λ same. (let f : None ≡ Some s = sym none ∙ ap (λ k. get_or places k None) (sym same) ∙ was in cc) in
        ap (λ (x : Leaf). get_or places_p x.item None) e ∙ get_or-set_other places item (get_or leaves s nowhere).item (Some copy_slot) None apart ∙ was

    -- A copy put into an empty copy slot leaves copy slots and items in agreement.
    pub agree_put : Agree pix places_p leaves_p
    agree_put = record {
      within = λ i s l e. (let w = put_within i s (cases_eq i item) (omega (arith, length-set places item (Some copy_slot))) e in omega (arith, length-set leaves copy_slot (new_leaf pix item copy_slot)));
      leaf = λ i s l e. put_leaf i s (cases_eq i item) (omega (arith, length-set places item (Some copy_slot))) e;
      item = λ s l k. (let w = put_item s (cases_eq s copy_slot) (omega (arith, length-set leaves copy_slot (new_leaf pix item copy_slot))) k in omega (arith, length-set places item (Some copy_slot)));
      place = λ s l k. put_place s (cases_eq s copy_slot) (omega (arith, length-set leaves copy_slot (new_leaf pix item copy_slot))) k;
      counted = (let one = counts is_some places item (Some copy_slot) None false true li (ap is_some none) refl in
          let two = counts (λ (x : Leaf). x.kept) leaves copy_slot (new_leaf pix item copy_slot) nowhere false true ls free refl in
          omega (arith, a.counted));
    }

  -- ---- a copy slot emptied
  module _ (some : get_or places item None ≡ Some copy_slot) where
    abbrev places_d : List (Option ℕ)
    places_d = set places item None

    abbrev leaves_d : List Leaf
    leaves_d = set leaves copy_slot (empty_leaf copy_slot)

    here : get_or leaves copy_slot nowhere ≡ new_leaf pix item copy_slot
    here = a.leaf item copy_slot li some

    still : (i s : ℕ) → (i ≡ item) ⊎ (i ≡ item → ⊥) → get_or places_d i None ≡ Some s → (i ≡ item → ⊥) × (get_or places i None ≡ Some s)
    still i s (inl same) e = let f : None ≡ Some s = sym (get_or-set_same places item None None li) ∙ ap (λ k. get_or places_d k None) (sym same) ∙ e in cc
    still i s (inr other) e = (other, sym (get_or-set_other places item i None None other) ∙ e)

    drop_leaf : (i s : ℕ) → i < length places → (i ≡ item → ⊥) × (get_or places i None ≡ Some s) → get_or leaves_d s nowhere ≡ new_leaf pix i s
    drop_leaf i s l e =
        let was = a.leaf i s l e.1 in
        let apart : s ≢ copy_slot = λ same. e.0 (ap (λ (x : Leaf). x.item) (sym was ∙ ap (λ k. get_or leaves k nowhere) same ∙ here)) in
        get_or-set_other leaves copy_slot s (empty_leaf copy_slot) nowhere apart ∙ was

    left_kept : (s : ℕ) → (s ≡ copy_slot) ⊎ (s ≡ copy_slot → ⊥) → (get_or leaves_d s nowhere).kept ≡ true → (s ≡ copy_slot → ⊥) × (get_or leaves_d s nowhere ≡ get_or leaves s nowhere) × ((get_or leaves s nowhere).kept ≡ true)
    left_kept s (inl same) k = absurd (false≢true (sym (ap (λ (x : Leaf). x.kept) (ap (λ k. get_or leaves_d k nowhere) same ∙ get_or-set_same leaves copy_slot (empty_leaf copy_slot) nowhere ls)) ∙ k))
    left_kept s (inr other) k = let e = get_or-set_other leaves copy_slot s (empty_leaf copy_slot) nowhere other in (other, e, sym (ap (λ (x : Leaf). x.kept) e) ∙ k)

    drop_place : (s : ℕ) → s < length leaves → (s ≡ copy_slot → ⊥) × (get_or leaves_d s nowhere ≡ get_or leaves s nowhere) × ((get_or leaves s nowhere).kept ≡ true) → get_or places_d (get_or leaves_d s nowhere).item None ≡ Some s
    drop_place s l h =
        let was = a.place s l h.2 in
        let apart : (get_or leaves s nowhere).item ≢ item = λ same. h.0 (let f : Some s ≡ Some copy_slot = sym was ∙ ap (λ k. get_or places k None) same ∙ some in cc) in
        ap (λ (x : Leaf). get_or places_d x.item None) h.1 ∙ get_or-set_other places item (get_or leaves s nowhere).item None None apart ∙ was

    -- A copy slot that is emptied leaves them in agreement too.
    pub agree_drop : Agree pix places_d leaves_d
    agree_drop = record {
      within = λ i s l e. (let w = a.within i s (omega (arith, length-set places item None)) (still i s (cases_eq i item) e).1 in omega (arith, length-set leaves copy_slot (empty_leaf copy_slot)));
      leaf = λ i s l e. drop_leaf i s (omega (arith, length-set places item None)) (still i s (cases_eq i item) e);
      item = λ s l k. (let h = left_kept s (cases_eq s copy_slot) k in let same = ap (λ (x : Leaf). x.item) h.1 in
          let w = a.item s (omega (arith, length-set leaves copy_slot (empty_leaf copy_slot))) h.2 in omega (arith, length-set places item None));
      place = λ s l k. drop_place s (omega (arith, length-set leaves copy_slot (empty_leaf copy_slot))) (left_kept s (cases_eq s copy_slot) k);
      counted = (let one = counts is_some places item None None true false li (ap is_some some) refl in
          let two = counts (λ (x : Leaf). x.kept) leaves copy_slot (empty_leaf copy_slot) nowhere true false ls (ap (λ (x : Leaf). x.kept) here) refl in
          omega (arith, a.counted));
    }

-- A copy slot taken from one item and given to another.
pub handed_on : (pix : List ℕ) (places : List (Option ℕ)) (leaves : List Leaf) (m item copy_slot : ℕ) → Agree pix places leaves → m < length places → item < length places → copy_slot < length leaves →
    get_or places m None ≡ Some copy_slot → get_or places item None ≡ None → Agree pix (set (set places m None) item (Some copy_slot)) (set leaves copy_slot (new_leaf pix item copy_slot))
handed_on pix places leaves m item copy_slot a lm li ls its none =
    let apart : item ≢ m = λ i. (let f : None ≡ Some copy_slot = sym none ∙ ap (λ j. get_or places j None) i ∙ its in cc) in
    subst (Agree pix (set (set places m None) item (Some copy_slot))) (set-set leaves copy_slot (empty_leaf copy_slot) (new_leaf pix item copy_slot))
    (agree_put pix (set places m None) (set leaves copy_slot (empty_leaf copy_slot)) item copy_slot (agree_drop pix places leaves m copy_slot a lm ls its)
    (omega (arith, length-set places m None)) (omega (arith, length-set leaves copy_slot (empty_leaf copy_slot)))
    (get_or-set_other places m item None None apart ∙ none)
    (ap (λ (b : Leaf). b.kept) (get_or-set_same leaves copy_slot (empty_leaf copy_slot) nowhere ls)))

-- ---- a cache with no copies
-- If no item has a copy slot and no copy slot a copy, they agree.
pub agree_none : (pix : List ℕ) (places : List (Option ℕ)) (leaves : List Leaf) → ((i : ℕ) → i < length places → get_or places i None ≡ None) → ((s : ℕ) → s < length leaves → get_or leaves s nowhere ≡ empty_leaf s) → Agree pix places leaves
agree_none pix places leaves none empty = record {
  within = λ i s l e. (let f : None ≡ Some s = sym (none i l) ∙ e in cc);
  leaf = λ i s l e. (let f : None ≡ Some s = sym (none i l) ∙ e in cc);
  item = λ s l k. absurd (false≢true (sym (ap (λ (x : Leaf). x.kept) (empty s l)) ∙ k));
  place = λ s l k. absurd (false≢true (sym (ap (λ (x : Leaf). x.kept) (empty s l)) ∙ k));
  counted = no_count is_some places None is_none ∙ sym (no_count (λ (x : Leaf). x.kept) leaves nowhere (λ s l. ap (λ (x : Leaf). x.kept) (empty s l)));
}
  where
    is_none : (i : ℕ) → i < length places → is_some (get_or places i None) ≡ false
    is_none i l = ap is_some (none i l)

-- ---- other PIX numbers
-- They agree once each leaf has its item's new number.
pub agree_renumbered : (was pix : List ℕ) (places : List (Option ℕ)) (leaves now : List Leaf) → Agree was places leaves → length now ≡ length leaves → ((s : ℕ) → s < length leaves → get_or now s nowhere ≡ renumbered_leaf pix (get_or leaves s nowhere)) → Agree pix places now
agree_renumbered was pix places leaves now a same each = record {
  within = λ i s l e. (let w = a.within i s l e in omega arith);
  leaf = λ i s l e. each s (a.within i s l e) ∙ ap (renumbered_leaf pix) (a.leaf i s l e);
  item = λ s l k. subst (λ (x : Leaf). x.item < length places) (sym (each s (omega arith))) (subst (λ i. i < length places) (sym (its_item (get_or leaves s nowhere))) (a.item s (omega arith) (was_kept s (omega arith) k)));
  place = λ s l k. ap (λ (x : Leaf). get_or places x.item None) (each s (omega arith)) ∙ ap (λ i. get_or places i None) (its_item (get_or leaves s nowhere)) ∙ a.place s (omega arith) (was_kept s (omega arith) k);
  counted = a.counted ∙ sym (count_alike (λ (x : Leaf). x.kept) now leaves nowhere same (λ s l. ap (λ (x : Leaf). x.kept) (each s (omega arith)) ∙ its_kept (get_or leaves s nowhere)));
}
  where
    its_item : (x : Leaf) → (renumbered_leaf pix x).item ≡ x.item
    its_item x = by x.kept
      where
        by : (b : Bool) → (if b then copy_leaf x.copy_slot (get_or pix x.item 0) x.item else x).item ≡ x.item
        by true = refl
        by false = refl

    its_kept : (x : Leaf) → (renumbered_leaf pix x).kept ≡ x.kept
    its_kept x = by x.kept refl
      where
        by : (b : Bool) → x.kept ≡ b → (if b then copy_leaf x.copy_slot (get_or pix x.item 0) x.item else x).kept ≡ x.kept
        by true e = sym e
        by false e = refl

    was_kept : (s : ℕ) → s < length leaves → (get_or now s nowhere).kept ≡ true → (get_or leaves s nowhere).kept ≡ true
    was_kept s l k = sym (ap (λ (x : Leaf). x.kept) (each s l) ∙ its_kept (get_or leaves s nowhere)) ∙ k

-- If each leaf gets its item's number, copy slots and items agree by the new numbers.
pub agree_reordered : (was pix : List ℕ) (places : List (Option ℕ)) (leaves : List Leaf) → Agree was places leaves → Agree pix places (map (renumbered_leaf pix) leaves)
agree_reordered was pix places leaves a = agree_renumbered was pix places leaves (map (renumbered_leaf pix) leaves) a (length-map leaves (renumbered_leaf pix)) (λ s l. get_or-map (renumbered_leaf pix) leaves s nowhere nowhere l)
