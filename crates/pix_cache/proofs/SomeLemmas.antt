-- Copies by rising item: the list of the copies that exist, compared with the list that has one place for each item.
use Rattle.std.proofs.Common.{◌≡◌, ℕ, suc, ◌+◌, ◌<◌, ◌≤◌, Bool, true, false, not, cond, ◌==◌, nat_lt, List, [], ◌∷◌, ◌++◌, length, get_or, take, drop, All, Option, Some, None, refl, sym, ◌∙◌, ap, subst, arith, ◌⊎◌, inl, inr, append-nil}
use Rattle.std.specs.List.{count_by, filter, find}
use Rattle.std.specs.Option.{is_some, option_or}
use Rattle.std.proofs.Math.ListN.{set}
use Rattle.std.proofs.lemmas.Bool.{cases_lt, cond-false, eq-eqb, le-ltb, lt-ltb, ne_eqb}
use Rattle.std.proofs.lemmas.List.{get_or-append-add, get_or_append_left, get_or_past, length-take-le, set-get_or, set_split}
use Rattle.std.proofs.lemmas.List.Elements.{All-cons, All-head, All-tail, All-weaker, filter-append}
use Rattle.std.proofs.lemmas.List.Folds.{find-append}
use Rattle.std.proofs.lemmas.List.Sums.{sum_by-cons}
use Rattle.air_model.specs.Reads.{Read}
use Rattle.air_model.specs.Copies.{with_copy, without_item}
use Rattle.air_model.proofs.CopyOrders.{filter_all}
use Rattle.pix_cache.specs.Caches.{copy_among}
use Rattle.pix_cache.specs.CacheFields.{somes}

-- Each copy is at its item's place, counted from a first one.
abbrev pub Placed : ℕ → List (Option Read) → Type 0
Placed a os = (k : ℕ) (r : Read) → get_or os k None ≡ Some r → r.item ≡ a + k

-- The copies of two lists are those of the first and then those of the second.
somes-append : (xs ys : List (Option Read)) → somes (xs ++ ys) ≡ somes xs ++ somes ys
somes-append [] ys = refl
somes-append (None ∷ xs) ys = somes-append xs ys
somes-append (Some r ∷ xs) ys = ap (λ l. r ∷ l) (somes-append xs ys)

-- Copies that are at their items' places are of items of that range.
items_in : (a : ℕ) (os : List (Option Read)) → Placed a os → All (λ r. (a ≤ r.item) × (r.item < a + length os)) (somes os)
items_in a [] h = λ k d l. absurd (omega arith)
items_in a (None ∷ os) h =
    All-weaker (λ r. (a + 1 ≤ r.item) × (r.item < a + 1 + length os)) (λ r. (a ≤ r.item) × (r.item < a + suc (length os))) (λ r p. let low = p.0 in let high = p.1 in (omega arith, omega arith)) (somes os)
    (items_in (a + 1) os (λ k r e. let at = h (suc k) r e in omega arith))
items_in a (Some r ∷ os) h =
    All-cons (λ r. (a ≤ r.item) × (r.item < a + suc (length os))) r (somes os) (let at = h 0 r refl in (omega arith, omega arith))
    (All-weaker (λ r. (a + 1 ≤ r.item) × (r.item < a + 1 + length os)) (λ r. (a ≤ r.item) × (r.item < a + suc (length os))) (λ r p. let low = p.0 in let high = p.1 in (omega arith, omega arith)) (somes os)
    (items_in (a + 1) os (λ k r e. let at = h (suc k) r e in omega arith)))

filter_no : (f : Read → Bool) (R : List Read) → All (λ r. f r ≡ false) R → filter f R ≡ []
filter_no f [] h = refl
filter_no f (r ∷ R) h = cond-false (f r) _ _ (All-head (λ r. f r ≡ false) r R h) ∙ filter_no f R (All-tail (λ r. f r ≡ false) r R h)

find_no : (f : Read → Bool) (R : List Read) → All (λ r. f r ≡ false) R → find f R ≡ None
find_no f [] h = refl
find_no f (r ∷ R) h = cond-false (f r) _ _ (All-head (λ r. f r ≡ false) r R h) ∙ find_no f R (All-tail (λ r. f r ≡ false) r R h)

-- The copy at one place, if there is one.
one : Option Read → List Read
one None = []
one (Some r) = r ∷ []

around : (f b : List (Option Read)) (o : Option Read) → somes (f ++ o ∷ b) ≡ somes f ++ (one o ++ somes b)
unfolding one
around f b None = somes-append f (None ∷ b)
around f b (Some r) = somes-append f (Some r ∷ b)

placed_left : (f b : List (Option Read)) (o : Option Read) → Placed 0 (f ++ o ∷ b) → Placed 0 f
placed_left f b o h k r e = by (cases_lt k (length f))
  where
    by : (k < length f) ⊎ (length f ≤ k) → r.item ≡ 0 + k
    by (inl l) = h k r (get_or_append_left f (o ∷ b) None k l ∙ e)
    by (inr past) = let none : get_or f k None ≡ None = get_or_past f k None past in cc

placed_right : (f b : List (Option Read)) (o : Option Read) → Placed 0 (f ++ o ∷ b) → Placed (length f + 1) b
placed_right f b o h k r e = let at = h (length f + suc k) r (get_or-append-add f (o ∷ b) (suc k) None ∙ e) in omega arith

placed_mid : (f b : List (Option Read)) (o : Option Read) → Placed 0 (f ++ o ∷ b) → (r : Read) → o ≡ Some r → r.item ≡ length f
placed_mid f b o h r e = let at = h (length f + 0) r (get_or-append-add f (o ∷ b) 0 None ∙ e) in omega arith

module _ (f b : List (Option Read)) (o : Option Read) (h : Placed 0 (f ++ o ∷ b)) where
  lefts : All (λ r. r.item < length f) (somes f)
  lefts = All-weaker (λ r. (0 ≤ r.item) × (r.item < 0 + length f)) (λ r. r.item < length f) (λ r p. let high = p.1 in omega arith) (somes f) (items_in 0 f (placed_left f b o h))

  rights : All (λ r. length f < r.item) (somes b)
  rights = All-weaker (λ r. (length f + 1 ≤ r.item) × (r.item < length f + 1 + length b)) (λ r. length f < r.item) (λ r p. let low = p.0 in omega arith) (somes b) (items_in (length f + 1) b (placed_right f b o h))

  -- The copy in the middle fails or passes a test as its item says.
  mid_fails : (p : Read → Bool) → ((r : Read) → r.item ≡ length f → p r ≡ false) → All (λ r. p r ≡ false) (one o)
  unfolding one
  mid_fails p fails = by o (placed_mid f b o h)
    where
      by : (x : Option Read) → ((r : Read) → x ≡ Some r → r.item ≡ length f) → All (λ r. p r ≡ false) (one x)
      by None at = λ k d l. absurd (omega arith)
      by (Some r) at = All-cons (λ r. p r ≡ false) r [] (fails r (at r refl)) (λ k d l. absurd (omega arith))

  split_filter : (p : Read → Bool) → filter p (somes (f ++ o ∷ b)) ≡ filter p (somes f) ++ (filter p (one o) ++ filter p (somes b))
  split_filter p = ap (filter p) (around f b o) ∙ filter-append p (somes f) (one o ++ somes b) ∙ ap (λ l. filter p (somes f) ++ l) (filter-append p (one o) (somes b))

  below : filter (λ r. nat_lt r.item (length f)) (somes (f ++ o ∷ b)) ≡ somes f
  below =
      let p : Read → Bool = λ r. nat_lt r.item (length f) in
      split_filter p
      ∙ ap (λ l. l ++ (filter p (one o) ++ filter p (somes b))) (filter_all p (somes f) (All-weaker (λ r. r.item < length f) (λ r. p r ≡ true) (λ r l. lt-ltb r.item (length f) l) (somes f) lefts))
      ∙ ap (λ l. somes f ++ (l ++ filter p (somes b))) (filter_no p (one o) (mid_fails p (λ r e. le-ltb r.item (length f) (omega arith))))
      ∙ ap (λ l. somes f ++ l) (filter_no p (somes b) (All-weaker (λ r. length f < r.item) (λ r. p r ≡ false) (λ r l. le-ltb r.item (length f) (omega arith)) (somes b) rights))
      ∙ append-nil (somes f)

  above : filter (λ r. nat_lt (length f) r.item) (somes (f ++ o ∷ b)) ≡ somes b
  above =
      let p : Read → Bool = λ r. nat_lt (length f) r.item in
      split_filter p
      ∙ ap (λ l. l ++ (filter p (one o) ++ filter p (somes b))) (filter_no p (somes f) (All-weaker (λ r. r.item < length f) (λ r. p r ≡ false) (λ r l. le-ltb (length f) r.item (omega arith)) (somes f) lefts))
      ∙ ap (λ l. l ++ filter p (somes b)) (filter_no p (one o) (mid_fails p (λ r e. le-ltb (length f) r.item (omega arith))))
      ∙ filter_all p (somes b) (All-weaker (λ r. length f < r.item) (λ r. p r ≡ true) (λ r l. lt-ltb (length f) r.item l) (somes b) rights)

  others : filter (λ r. not (r.item == length f)) (somes (f ++ o ∷ b)) ≡ somes f ++ somes b
  others =
      let p : Read → Bool = λ r. not (r.item == length f) in
      split_filter p
      ∙ ap (λ l. l ++ (filter p (one o) ++ filter p (somes b))) (filter_all p (somes f) (All-weaker (λ r. r.item < length f) (λ r. p r ≡ true) (λ r l. ap not (ne_eqb r.item (length f) (λ e. absurd (omega arith)))) (somes f) lefts))
      ∙ ap (λ l. somes f ++ (l ++ filter p (somes b))) (filter_no p (one o) (mid_fails p (λ r e. ap not (eq-eqb r.item (length f) e))))
      ∙ ap (λ l. somes f ++ l) (filter_all p (somes b) (All-weaker (λ r. length f < r.item) (λ r. p r ≡ true) (λ r l. ap not (ne_eqb r.item (length f) (λ e. absurd (omega arith)))) (somes b) rights))

  found : find (λ r. r.item == length f) (somes (f ++ o ∷ b)) ≡ o
  unfolding one
  found =
      let p : Read → Bool = λ r. r.item == length f in
      ap (find p) (around f b o) ∙ find-append p (somes f) (one o ++ somes b)
      ∙ ap (λ u. option_or u (find p (one o ++ somes b))) (find_no p (somes f) (All-weaker (λ r. r.item < length f) (λ r. p r ≡ false) (λ r l. ne_eqb r.item (length f) (λ e. absurd (omega arith))) (somes f) lefts))
      ∙ find-append p (one o) (somes b)
      ∙ ap (option_or (find p (one o))) (find_no p (somes b) (All-weaker (λ r. length f < r.item) (λ r. p r ≡ false) (λ r l. ne_eqb r.item (length f) (λ e. absurd (omega arith))) (somes b) rights))
      ∙ by o (placed_mid f b o h)
    where
      by : (x : Option Read) → ((r : Read) → x ≡ Some r → r.item ≡ length f) → option_or (find (λ r. r.item == length f) (one x)) None ≡ x
      by None at = refl
      by (Some r) at = ap (λ (b : Bool). option_or (cond b (Some r) None) None) (eq-eqb r.item (length f) (at r refl))

-- ---- by the place of an item
module _ (os : List (Option Read)) (i : ℕ) (within : i < length os) where
  front : List (Option Read)
  front = take i os

  back : List (Option Read)
  back = drop (suc i) os

  -- The list around a place.
  pub parts : os ≡ take i os ++ get_or os i None ∷ drop (suc i) os
  parts = sym (set-get_or os i None) ∙ set_split os i (get_or os i None) within

  size : length (take i os) ≡ i
  size = length-take-le i os (omega arith)

  -- A copy put at its item's place is put in place of that item's copy.
  pub with_is : (x : Read) → x.item ≡ i → Placed 0 os → with_copy x (somes os) ≡ somes (set os i (Some x))
  unfolding with_copy
  with_is x at h =
      let f = take i os in
      let b = drop (suc i) os in
      let o = get_or os i None in
      let here : x.item ≡ length f = at ∙ sym size in
      let hp = subst (Placed 0) parts h in
      ap (λ S. filter (λ r. nat_lt r.item x.item) S ++ x ∷ filter (λ r. nat_lt x.item r.item) S) (ap somes parts)
      ∙ ap (λ k. filter (λ r. nat_lt r.item k) (somes (f ++ o ∷ b)) ++ x ∷ filter (λ r. nat_lt k r.item) (somes (f ++ o ∷ b))) here
      ∙ ap (λ l. l ++ x ∷ filter (λ r. nat_lt (length f) r.item) (somes (f ++ o ∷ b))) (below f b o hp)
      ∙ ap (λ l. somes f ++ x ∷ l) (above f b o hp)
      ∙ sym (ap somes (set_split os i (Some x) within) ∙ somes-append f (Some x ∷ b))

  -- The copies without an item's copy are those with its place empty.
  pub without_is : Placed 0 os → without_item i (somes os) ≡ somes (set os i None)
  unfolding without_item
  without_is h =
      let f = take i os in
      let b = drop (suc i) os in
      let o = get_or os i None in
      ap (λ S. filter (λ r. not (r.item == i)) S) (ap somes parts)
      ∙ ap (λ k. filter (λ r. not (r.item == k)) (somes (f ++ o ∷ b))) (sym size)
      ∙ others f b o (subst (Placed 0) parts h)
      ∙ sym (ap somes (set_split os i None within) ∙ somes-append f (None ∷ b))

  -- An item's copy is what is at its place.
  pub copy_is : Placed 0 os → copy_among i (somes os) ≡ get_or os i None
  unfolding copy_among
  copy_is h =
      let f = take i os in
      let b = drop (suc i) os in
      let o = get_or os i None in
      ap (λ S. find (λ r. r.item == i) S) (ap somes parts)
      ∙ ap (λ k. find (λ r. r.item == k) (somes (f ++ o ∷ b))) (sym size)
      ∙ found f b o (subst (Placed 0) parts h)

  -- One copy taken out.
  pub taken : (r : Read) → get_or os i None ≡ Some r → somes os ≡ somes (take i os) ++ r ∷ somes (drop (suc i) os)
  taken r e = ap somes (parts ∙ ap (λ o. take i os ++ o ∷ drop (suc i) os) e) ∙ somes-append (take i os) (Some r ∷ drop (suc i) os)

  -- What is left without the one at a place.
  pub left : somes (set os i None) ≡ somes (take i os) ++ somes (drop (suc i) os)
  left = ap somes (set_split os i None within) ∙ somes-append (take i os) (None ∷ drop (suc i) os)

-- The number of copies.
pub count_somes : (os : List (Option Read)) → length (somes os) ≡ count_by is_some os
count_somes [] = refl
count_somes (None ∷ os) = count_somes os
count_somes (Some r ∷ os) = let e = count_somes os in let s = sum_by-cons (λ o. cond (is_some o) 1 0) (Some r) os in omega arith

-- What holds of each copy by its place holds of all.
pub all_somes : (P : Read → Type 0) (os : List (Option Read)) → ((k : ℕ) (r : Read) → k < length os → get_or os k None ≡ Some r → P r) → All P (somes os)
all_somes P [] h = λ k d l. absurd (omega arith)
all_somes P (None ∷ os) h = all_somes P os (λ k r l e. h (suc k) r (omega arith) e)
all_somes P (Some r ∷ os) h = All-cons P r (somes os) (h 0 r (omega arith) refl) (all_somes P os (λ k s l e. h (suc k) s (omega arith) e))
