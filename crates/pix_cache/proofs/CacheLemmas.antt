-- The copies that the fields of a cache hold, and what each call changes in them.
use Rattle.std.proofs.Common.{◌≡◌, ◌≢◌, ℕ, suc, ◌+◌, ◌<◌, ◌≤◌, Bool, cond, List, [], ◌∷◌, length, get_or, Option, Some, None, refl, sym, ◌∙◌, ap, arith, ◌⊎◌, inl, inr, length-set}
use Rattle.std.specs.List.{count_by}
use Rattle.std.specs.Option.{is_some, option_map}
use Rattle.std.proofs.Math.ListN.{set}
use Rattle.std.proofs.lemmas.Bool.{cases_eq, cases_lt}
use Rattle.std.proofs.lemmas.List.{get_or-set_other, get_or-set_same, get_or_default, get_or_past, same_lists, set-get_or}
use Rattle.std.proofs.lemmas.List.FromFn.{get_or-map-range_with_len, length-map-range_with_len}
use Rattle.std.proofs.lemmas.List.Sums.{sum_by-cons}
use Rattle.air_model.specs.Reads.{Read, read_with}
use Rattle.air_model.specs.Copies.{without_item}
use Rattle.pix_cache.specs.Stores.{StoredCopy, no_store}
use Rattle.pix_cache.specs.Caches.{copy_among}
use Rattle.pix_cache.specs.CacheFields.{copies_in_store, somes, stored_read}
use Rattle.pix_cache.proofs.SomeLemmas.{Placed, copy_is, count_somes, without_is}

-- ---- the copies by place
-- There is one place for each item.
pub long : (stores : List StoredCopy) (places : List (Option ℕ)) → length (copies_in_store stores places) ≡ length places
long stores places = length-map-range_with_len (λ item. option_map (stored_read stores item) (get_or places item None)) 0 (length places)

-- At an item's place is what its copy slot holds.
pub at_place : (stores : List StoredCopy) (places : List (Option ℕ)) (item : ℕ) → item < length places → get_or (copies_in_store stores places) item None ≡ option_map (stored_read stores item) (get_or places item None)
at_place stores places item l = get_or-map-range_with_len (λ item. option_map (stored_read stores item) (get_or places item None)) 0 (length places) item item None l (omega arith)

-- Each copy is at its item's place.
pub placed : (stores : List StoredCopy) (places : List (Option ℕ)) → Placed 0 (copies_in_store stores places)
placed stores places k r e = by (cases_lt k (length places))
  where
    item : (o : Option ℕ) → option_map (stored_read stores k) o ≡ Some r → r.item ≡ k
    item None f = cc
    item (Some copy_slot) f = let same : Some (stored_read stores k copy_slot) ≡ Some r = f in let s : stored_read stores k copy_slot ≡ r = cc in sym (ap (λ x. x.item) s)

    by : (k < length places) ⊎ (length places ≤ k) → r.item ≡ 0 + k
    by (inl l) = let i = item (get_or places k None) (sym (at_place stores places k l) ∙ e) in omega arith
    by (inr past) = let none : get_or (copies_in_store stores places) k None ≡ None = get_or_past (copies_in_store stores places) k None (omega (arith, long stores places)) in cc

-- The copy of an item with a copy slot is what the copy slot holds.
pub kept_copy : (stores : List StoredCopy) (places : List (Option ℕ)) (item copy_slot : ℕ) → item < length places → get_or places item None ≡ Some copy_slot → copy_among item (somes (copies_in_store stores places)) ≡ Some (stored_read stores item copy_slot)
kept_copy stores places item copy_slot l e =
    copy_is (copies_in_store stores places) item (omega (arith, long stores places)) (placed stores places) ∙ at_place stores places item l ∙ ap (option_map (stored_read stores item)) e

-- An item without a copy slot has no copy.
pub no_copy : (stores : List StoredCopy) (places : List (Option ℕ)) (item : ℕ) → item < length places → get_or places item None ≡ None → copy_among item (somes (copies_in_store stores places)) ≡ None
no_copy stores places item l e =
    copy_is (copies_in_store stores places) item (omega (arith, long stores places)) (placed stores places) ∙ at_place stores places item l ∙ ap (option_map (stored_read stores item)) e

-- ---- how many
-- If at each place two lists both pass or both fail, equally many of both pass.
count_same : {X Y : Type 0} (p : X → Bool) (q : Y → Bool) (xs : List X) (ys : List Y) (d : X) (e : Y) → length xs ≡ length ys → ((k : ℕ) → k < length xs → p (get_or xs k d) ≡ q (get_or ys k e)) → count_by p xs ≡ count_by q ys
count_same p q [] [] d e l h = refl
count_same p q [] (y ∷ ys) d e l h = absurd (omega arith)
count_same p q (x ∷ xs) [] d e l h = absurd (omega arith)
count_same p q (x ∷ xs) (y ∷ ys) d e l h =
    let rest = count_same p q xs ys d e (omega arith) (λ k m. h (suc k) (omega arith)) in
    let one = sum_by-cons (λ z. cond (p z) 1 0) x xs in
    let two = sum_by-cons (λ z. cond (q z) 1 0) y ys in
    let head : ◌≡◌ {A = ℕ} (cond (p x) 1 0) (cond (q y) 1 0) = ap (λ b. cond b 1 0) (h 0 (omega arith)) in
    omega arith

is_some_map : {X Y : Type 0} (f : X → Y) (o : Option X) → is_some (option_map f o) ≡ is_some o
is_some_map f None = refl
is_some_map f (Some x) = refl

-- There are as many copies as items with a copy slot.
pub how_many : (stores : List StoredCopy) (places : List (Option ℕ)) → length (somes (copies_in_store stores places)) ≡ count_by is_some places
how_many stores places = count_somes (copies_in_store stores places) ∙ count_same is_some is_some (copies_in_store stores places) places None None (long stores places) (λ k l.
    ap is_some (at_place stores places k (omega (arith, long stores places))) ∙ is_some_map (stored_read stores k) (get_or places k None))

-- ---- one copy changed
-- Two lists with equal elements at each place are equal.
pub by_place : (os rs : List (Option Read)) → length os ≡ length rs → ((k : ℕ) → k < length os → get_or os k None ≡ get_or rs k None) → os ≡ rs
by_place os rs l h = same_lists os rs l (λ k d m. get_or_default os k d None m ∙ h k m ∙ get_or_default rs k None d (omega arith))

-- What is read in one copy slot doesn't change with another.
pub same_read : (stores : List StoredCopy) (copy_slot : ℕ) (st : StoredCopy) (k : ℕ) (o : Option ℕ) → o ≢ Some copy_slot → option_map (stored_read (set stores copy_slot st) k) o ≡ option_map (stored_read stores k) o
same_read stores copy_slot st k None ne = refl
same_read stores copy_slot st k (Some t) ne = ap (λ (s : StoredCopy). Some (read_with k s.cycle s.value s.entries)) (get_or-set_other stores copy_slot t st no_store (λ same. ne (ap Some same)))

-- A copy put into a copy slot of its own is at its item's place, and all others stay.
pub put_is : (stores : List StoredCopy) (places : List (Option ℕ)) (item copy_slot : ℕ) (st : StoredCopy) → item < length places → copy_slot < length stores →
    ((k : ℕ) → k < length places → k ≢ item → get_or places k None ≢ Some copy_slot) →
    copies_in_store (set stores copy_slot st) (set places item (Some copy_slot)) ≡ set (copies_in_store stores places) item (Some (read_with item st.cycle st.value st.entries))
put_is stores places item copy_slot st li ls apart =
    by_place (copies_in_store (set stores copy_slot st) (set places item (Some copy_slot))) (set (copies_in_store stores places) item (Some x))
    (long (set stores copy_slot st) (set places item (Some copy_slot)) ∙ length-set places item (Some copy_slot) ∙ sym (long stores places) ∙ sym (length-set (copies_in_store stores places) item (Some x)))
    (λ k l. (let short : k < length places = omega (arith, long (set stores copy_slot st) (set places item (Some copy_slot)), length-set places item (Some copy_slot)) in
    at_place (set stores copy_slot st) (set places item (Some copy_slot)) k (omega (arith, length-set places item (Some copy_slot))) ∙ by k short (cases_eq k item)))
  where
    x : Read
    x = read_with item st.cycle st.value st.entries

    by : (k : ℕ) → k < length places → (k ≡ item) ⊎ (k ≡ item → ⊥) → option_map (stored_read (set stores copy_slot st) k) (get_or (set places item (Some copy_slot)) k None) ≡ get_or (set (copies_in_store stores places) item (Some x)) k None
    by k short (inl same) =
        ap (λ j. option_map (stored_read (set stores copy_slot st) j) (get_or (set places item (Some copy_slot)) j None)) same
        ∙ ap (option_map (stored_read (set stores copy_slot st) item)) (get_or-set_same places item (Some copy_slot) None li)
        ∙ ap (λ (s : StoredCopy). Some (read_with item s.cycle s.value s.entries)) (get_or-set_same stores copy_slot st no_store ls)
        ∙ sym (ap (λ j. get_or (set (copies_in_store stores places) item (Some x)) j None) same ∙ get_or-set_same (copies_in_store stores places) item (Some x) None (omega (arith, long stores places)))
    by k short (inr other) =
        ap (option_map (stored_read (set stores copy_slot st) k)) (get_or-set_other places item k (Some copy_slot) None other)
        ∙ same_read stores copy_slot st k (get_or places k None) (apart k short other)
        ∙ sym (get_or-set_other (copies_in_store stores places) item k (Some x) None other ∙ at_place stores places k short)

-- If a copy slot is taken from an item, the item's place is empty, and all others stay.
pub cleared_is : (stores : List StoredCopy) (places : List (Option ℕ)) (item : ℕ) → item < length places → copies_in_store stores (set places item None) ≡ set (copies_in_store stores places) item None
cleared_is stores places item li =
    by_place (copies_in_store stores (set places item None)) (set (copies_in_store stores places) item None)
    (long stores (set places item None) ∙ length-set places item None ∙ sym (long stores places) ∙ sym (length-set (copies_in_store stores places) item None))
    (λ k l. (let short : k < length places = omega (arith, long stores (set places item None), length-set places item None) in
    at_place stores (set places item None) k (omega (arith, length-set places item None)) ∙ by k short (cases_eq k item)))
  where
    by : (k : ℕ) → k < length places → (k ≡ item) ⊎ (k ≡ item → ⊥) → option_map (stored_read stores k) (get_or (set places item None) k None) ≡ get_or (set (copies_in_store stores places) item None) k None
    by k short (inl same) =
        ap (λ j. option_map (stored_read stores j) (get_or (set places item None) j None)) same
        ∙ ap (option_map (stored_read stores item)) (get_or-set_same places item None None li)
        ∙ sym (ap (λ j. get_or (set (copies_in_store stores places) item None) j None) same ∙ get_or-set_same (copies_in_store stores places) item None None (omega (arith, long stores places)))
    by k short (inr other) =
        ap (option_map (stored_read stores k)) (get_or-set_other places item k None None other)
        ∙ sym (get_or-set_other (copies_in_store stores places) item k None None other ∙ at_place stores places k short)

-- ---- what the code read and wrote
-- What the code read of a place is what is there.
pub read_place : (places : List (Option ℕ)) (item : ℕ) (r o : Option ℕ) → item < length places → r ≡ get_or places item r → r ≡ o → get_or places item None ≡ o
read_place places item r o l e f = get_or_default places item None r l ∙ sym e ∙ f

-- ---- a copy dropped
-- Without its copy slot an item's copy is gone.
pub dropped : (stores : List StoredCopy) (places : List (Option ℕ)) (item : ℕ) → item < length places → somes (copies_in_store stores (set places item None)) ≡ without_item item (somes (copies_in_store stores places))
dropped stores places item l =
    ap somes (cleared_is stores places item l) ∙ sym (without_is (copies_in_store stores places) item (omega (arith, long stores places)) (placed stores places))

-- If an item has no copy, dropping it changes nothing.
pub none_dropped : (stores : List StoredCopy) (places : List (Option ℕ)) (item : ℕ) → item < length places → get_or places item None ≡ None → somes (copies_in_store stores places) ≡ without_item item (somes (copies_in_store stores places))
none_dropped stores places item l e =
    ap (λ p. somes (copies_in_store stores p)) (sym (ap (set places item) (sym e) ∙ set-get_or places item None)) ∙ dropped stores places item l

-- ---- no copies
-- If no item has a copy slot, there are no copies.
pub none_at_all : (stores : List StoredCopy) (places : List (Option ℕ)) → ((i : ℕ) → i < length places → get_or places i None ≡ None) → somes (copies_in_store stores places) ≡ []
none_at_all stores places none = empty (copies_in_store stores places) (λ k l. (let s : k < length places = omega (arith, long stores places) in at_place stores places k s ∙ ap (option_map (stored_read stores k)) (none k s)))
  where
    empty : (os : List (Option Read)) → ((k : ℕ) → k < length os → get_or os k None ≡ None) → somes os ≡ []
    empty [] h = refl
    empty (None ∷ os) h = empty os (λ k l. h (suc k) (omega arith))
    empty (Some r ∷ os) h = let f : Some r ≡ None = h 0 (omega arith) in cc
