-- The order of the items: each is hotter than those after it, none is missing or twice, and no other list is like that. For the
-- cut of a list: the disks hold the list's first items, and all of them if the sizes add up.
use Rattle.std.proofs.Common.{◌≡◌, ◌<◌, ◌≤◌, ◌⊎◌, inl, inr, ◌+◌, ◌++◌, ℕ, zero, suc, Bool, true, false, cond, Some, List, [], ◌∷◌, append_assoc, length, take, drop, slice_get, slice_index, refl, sym, subst, ap, ◌∙◌, arith}
use Rattle.std.specs.Prelude.{◌≢◌}
use Rattle.std.specs.List.{All, fold, range_with_len, sum_by}
use Rattle.std.proofs.lemmas.Bool.{cases_lt}
use Rattle.std.proofs.lemmas.Bool.Decides.{nat_tests}
use Rattle.std.proofs.lemmas.List.{length-drop, nil_from_length, take-append-drop}
use Rattle.std.proofs.lemmas.List.Sums.{sum_by-cons}
use Rattle.std.proofs.lemmas.Option.{same_Some}
use Rattle.air_model.specs.Disks.{Disk, DiskSpec, all_items, cut, is_hotter, order, order_with}
use Rattle.air_model.specs.ProgramLaws.{IsAirable, IsOrder}
use Rattle.air_model.proofs.Elements.{Distinct, Distinct-left, Has, Has-later, all_at, at_all, at_pairs, contains_has, has_contains, pairs_at}

Has-split : (y x : ℕ) (ys : List ℕ) → Has (y ∷ ys) x → (y ≡ x) ⊎ Has ys x
Has-split y x ys (zero, e) = inl (same_Some y x e)
Has-split y x ys (suc k, e) = inr (k, e)

-- ---- which of two items is hotter
abbrev IsHotter : List ℕ → ℕ → ℕ → Type 0
IsHotter rates x y = (slice_index rates y < slice_index rates x) ⊎ ((slice_index rates x ≡ slice_index rates y) × (x < y))

hotter_from : (rates : List ℕ) (x y : ℕ) → is_hotter rates x y ≡ true → IsHotter rates x y
hotter_from rates x y e = grind (arith, nat_tests)

hotter_is : (rates : List ℕ) (x y : ℕ) → IsHotter rates x y → is_hotter rates x y ≡ true
hotter_is rates x y (inl a) = grind (arith, nat_tests)
hotter_is rates x y (inr b) = grind (arith, nat_tests)

hotter_turned : (rates : List ℕ) (x y : ℕ) → is_hotter rates x y ≡ false → (x ≡ y → ⊥) → IsHotter rates y x
hotter_turned rates x y e apart = grind (arith, nat_tests)

hotter_trans : (rates : List ℕ) (x y z : ℕ) → IsHotter rates x y → IsHotter rates y z → IsHotter rates x z
hotter_trans rates x y z (inl a) (inl b) = inl (omega arith)
hotter_trans rates x y z (inl a) (inr b) = inl (let e = b.0 in omega arith)
hotter_trans rates x y z (inr a) (inl b) = inl (let e = a.0 in omega arith)
hotter_trans rates x y z (inr a) (inr b) = inr (a.0 ∙ b.0, let l = a.1 in let m = b.1 in omega arith)

hotter_not : (rates : List ℕ) (x y : ℕ) → IsHotter rates x y → IsHotter rates y x → ⊥
hotter_not rates x y (inl a) (inl b) = omega arith
hotter_not rates x y (inl a) (inr b) = let e = b.0 in omega arith
hotter_not rates x y (inr a) (inl b) = let e = a.0 in omega arith
hotter_not rates x y (inr a) (inr b) = let l = a.1 in let m = b.1 in omega arith

-- ---- a list in order
abbrev IsInOrder : List ℕ → List ℕ → Type 0
IsInOrder rates xs = (j k x y : ℕ) → j < k → slice_get xs j ≡ Some x → slice_get xs k ≡ Some y → IsHotter rates x y

-- The item is hotter than all of the list.
abbrev IsAhead : List ℕ → ℕ → List ℕ → Type 0
IsAhead rates x xs = (y : ℕ) → Has xs y → IsHotter rates x y

IsInOrder-cons : (rates : List ℕ) (x : ℕ) (xs : List ℕ) → IsAhead rates x xs → IsInOrder rates xs → IsInOrder rates (x ∷ xs)
IsInOrder-cons rates x xs ahead rest zero zero a b less at to = absurd (omega arith)
IsInOrder-cons rates x xs ahead rest zero (suc k) a b less at to = subst (λ z. IsHotter rates z b) (same_Some x a at) (ahead b (k, to))
IsInOrder-cons rates x xs ahead rest (suc j) zero a b less at to = absurd (omega arith)
IsInOrder-cons rates x xs ahead rest (suc j) (suc k) a b less at to = rest j k a b (omega arith) at to

IsInOrder-ahead : (rates : List ℕ) (x : ℕ) (xs : List ℕ) → IsInOrder rates (x ∷ xs) → IsAhead rates x xs
IsInOrder-ahead rates x xs all y h = all 0 (suc h.0) x y (omega arith) refl h.1

IsInOrder-tail : (rates : List ℕ) (x : ℕ) (xs : List ℕ) → IsInOrder rates (x ∷ xs) → IsInOrder rates xs
IsInOrder-tail rates x xs all j k a b less at to = all (suc j) (suc k) a b (omega arith) at to

-- ---- one more item, placed
with_has : (rates js : List ℕ) (i x : ℕ) → Has (order_with rates js i) x → (i ≡ x) ⊎ Has js x
unfolding order_with
with_has rates [] i x h = Has-split i x [] h
with_has rates (j ∷ js) i x h = by (is_hotter rates i j) h (with_has rates js i x)
  where
    by : (b : Bool) → Has (cond b (i ∷ j ∷ js) (j ∷ order_with rates js i)) x → (Has (order_with rates js i) x → (i ≡ x) ⊎ Has js x) → (i ≡ x) ⊎ Has (j ∷ js) x
    by true h later = Has-split i x (j ∷ js) h
    by false h later = elim (Has-split j x (order_with rates js i) h) [ inl e ↦ inr (0, ap Some e) | inr m ↦ elim (later m) [ inl e ↦ inl e | inr n ↦ inr (Has-later j x js n) ] ]

has_with : (rates js : List ℕ) (i x : ℕ) → (i ≡ x) ⊎ Has js x → Has (order_with rates js i) x
unfolding order_with
has_with rates [] i x (inl e) = (0, ap Some e)
has_with rates [] i x (inr h) = absurd (cc h.1)
has_with rates (j ∷ js) i x h = by (is_hotter rates i j) h (has_with rates js i x)
  where
    by : (b : Bool) → (i ≡ x) ⊎ Has (j ∷ js) x → ((i ≡ x) ⊎ Has js x → Has (order_with rates js i) x) → Has (cond b (i ∷ j ∷ js) (j ∷ order_with rates js i)) x
    by true (inl e) later = (0, ap Some e)
    by true (inr h) later = Has-later i x (j ∷ js) h
    by false (inl e) later = Has-later j x (order_with rates js i) (later (inl e))
    by false (inr h) later = elim (Has-split j x js h) [ inl e ↦ (0, ap Some e) | inr m ↦ Has-later j x (order_with rates js i) (later (inr m)) ]

with_in_order : (rates js : List ℕ) (i : ℕ) → ((j : ℕ) → Has js j → i ≡ j → ⊥) → IsInOrder rates js → IsInOrder rates (order_with rates js i)
unfolding order_with
with_in_order rates [] i other all = IsInOrder-cons rates i [] (λ y h. absurd (cc h.1)) all
with_in_order rates (j ∷ js) i other all =
    by (is_hotter rates i j) refl (with_in_order rates js i (λ k h. other k (Has-later j k js h)) (IsInOrder-tail rates j js all))
  where
    by : (b : Bool) → is_hotter rates i j ≡ b → IsInOrder rates (order_with rates js i) → IsInOrder rates (cond b (i ∷ j ∷ js) (j ∷ order_with rates js i))
    by true e later =
        let front = hotter_from rates i j e in
        IsInOrder-cons rates i (j ∷ js) (λ y h. elim (Has-split j y js h) [ inl e ↦ subst (IsHotter rates i) e front | inr m ↦ hotter_trans rates i j y front (IsInOrder-ahead rates j js all y m) ]) all
    by false e later =
        let front = hotter_turned rates i j e (other j (0, refl)) in
        IsInOrder-cons rates j (order_with rates js i) (λ y h. elim (with_has rates js i y h) [ inl e ↦ subst (IsHotter rates j) e front | inr m ↦ IsInOrder-ahead rates j js all y m ]) later

-- ---- consecutive items, each placed among those before it
sorted_has : (rates js : List ℕ) (a n x : ℕ) → Has (fold (order_with rates) js (range_with_len a n)) x → Has js x ⊎ ((a ≤ x) × (x < a + n))
sorted_has rates js a zero x h = inl h
sorted_has rates js a (suc n) x h = elim (sorted_has rates (order_with rates js a) (a + 1) n x h) [ inl m ↦ elim (with_has rates js a x m) [ inl e ↦ inr (omega arith, omega arith) | inr g ↦ inl g ] | inr r ↦ let l = r.0 in let u = r.1 in inr (omega arith, omega arith) ]

has_sorted : (rates js : List ℕ) (a n x : ℕ) → Has js x ⊎ ((a ≤ x) × (x < a + n)) → Has (fold (order_with rates) js (range_with_len a n)) x
has_sorted rates js a zero x (inl h) = h
has_sorted rates js a zero x (inr r) = absurd (let l = r.0 in let u = r.1 in omega arith)
has_sorted rates js a (suc n) x (inl h) = has_sorted rates (order_with rates js a) (a + 1) n x (inl (has_with rates js a x (inr h)))
has_sorted rates js a (suc n) x (inr r) = has_sorted rates (order_with rates js a) (a + 1) n x (by (cases_lt a x))
  where
    by : ((a < x) ⊎ (x ≤ a)) → Has (order_with rates js a) x ⊎ ((a + 1 ≤ x) × (x < a + 1 + n))
    by (inl more) = let u = r.1 in inr (omega arith, omega arith)
    by (inr at) = let l = r.0 in inl (has_with rates js a x (inl (omega arith)))

sorted_in_order : (rates js : List ℕ) (a n : ℕ) → ((j : ℕ) → Has js j → j < a) → IsInOrder rates js → IsInOrder rates (fold (order_with rates) js (range_with_len a n))
sorted_in_order rates js a zero below all = all
sorted_in_order rates js a (suc n) below all =
    sorted_in_order rates (order_with rates js a) (a + 1) n
    (λ j h. elim (with_has rates js a j h) [ inl e ↦ omega arith | inr m ↦ let b = below j m in omega arith ])
    (with_in_order rates js a (λ j h e. let b = below j h in omega arith) all)

order_has : (rates : List ℕ) (x : ℕ) → Has (order rates) x → x < length rates
unfolding order
order_has rates x h = elim (sorted_has rates [] 0 (length rates) x h) [ inl m ↦ absurd (cc m.1) | inr r ↦ let u = r.1 in omega arith ]

has_order : (rates : List ℕ) (x : ℕ) → x < length rates → Has (order rates) x
unfolding order
has_order rates x below = has_sorted rates [] 0 (length rates) x (inr (omega arith, omega arith))

order_in_order : (rates : List ℕ) → IsInOrder rates (order rates)
unfolding order
order_in_order rates = sorted_in_order rates [] 0 (length rates) (λ j h. absurd (cc h.1)) (λ j k x y less at to. absurd (cc at))

length-order_with : (rates js : List ℕ) (i : ℕ) → length (order_with rates js i) ≡ length js + 1
unfolding order_with
length-order_with rates [] i = refl
length-order_with rates (j ∷ js) i = by (is_hotter rates i j) (length-order_with rates js i)
  where
    by : (b : Bool) → length (order_with rates js i) ≡ length js + 1 → length (cond b (i ∷ j ∷ js) (j ∷ order_with rates js i)) ≡ length (j ∷ js) + 1
    by true e = omega arith
    by false e = omega arith

length-sorted : (rates js : List ℕ) (a n : ℕ) → length (fold (order_with rates) js (range_with_len a n)) ≡ length js + n
length-sorted rates js a zero = omega arith
length-sorted rates js a (suc n) = omega (arith, length-sorted rates (order_with rates js a) (a + 1) n, length-order_with rates js a)

pub length-order : (rates : List ℕ) → length (order rates) ≡ length rates
unfolding order
length-order rates = omega (arith, length-sorted rates [] 0 (length rates))

-- Two lists in order with the same elements are equal.
same_order : (rates xs ys : List ℕ) → IsInOrder rates xs → IsInOrder rates ys → ((z : ℕ) → Has xs z → Has ys z) → ((z : ℕ) → Has ys z → Has xs z) → xs ≡ ys
same_order rates [] [] a b to from = refl
same_order rates [] (y ∷ ys) a b to from = absurd (let h = from y (0, refl) in cc h.1)
same_order rates (x ∷ xs) [] a b to from = absurd (let h = to x (0, refl) in cc h.1)
same_order rates (x ∷ xs) (y ∷ ys) a b to from =
    let first = head (Has-split y x ys (to x (0, refl))) (Has-split x y xs (from y (0, refl))) in
    let rest = same_order rates xs ys (IsInOrder-tail rates x xs a) (IsInOrder-tail rates y ys b)
    (λ z h. tail_to z h (Has-split y z ys (to z (Has-later x z xs h))) first) (λ z h. tail_from z h (Has-split x z xs (from z (Has-later y z ys h))) first) in
    rw (first, rest) refl
  where
    head : (y ≡ x) ⊎ Has ys x → (x ≡ y) ⊎ Has xs y → x ≡ y
    head (inl e) g = sym e
    head (inr h) (inl e) = e
    head (inr h) (inr g) = absurd (hotter_not rates x y (IsInOrder-ahead rates x xs a y g) (IsInOrder-ahead rates y ys b x h))

    tail_to : (z : ℕ) → Has xs z → (y ≡ z) ⊎ Has ys z → x ≡ y → Has ys z
    tail_to z h (inr m) e = m
    tail_to z h (inl m) e = let g = IsInOrder-ahead rates x xs a z h in let f = subst (λ w. IsHotter rates w z) (e ∙ m) g in absurd (hotter_not rates z z f f)

    tail_from : (z : ℕ) → Has ys z → (x ≡ z) ⊎ Has xs z → x ≡ y → Has xs z
    tail_from z h (inr m) e = m
    tail_from z h (inl m) e = let g = IsInOrder-ahead rates y ys b z h in let f = subst (λ w. IsHotter rates w z) (sym e ∙ m) g in absurd (hotter_not rates z z f f)

order_is_order : (rates : List ℕ) → IsOrder rates (order rates)
order_is_order rates = record {
  hottest_first = at_pairs (λ x y. is_hotter rates x y ≡ true) (order rates) (λ j k x y less at to. hotter_is rates x y (order_in_order rates j k x y less at to));
  members = λ i. ((λ c. order_has rates i (contains_has (order rates) i c)), (λ below. has_contains (order rates) i (has_order rates i below)));
}

pub order_only : (rates items : List ℕ) → (IsOrder rates items → items ≡ order rates) × (items ≡ order rates → IsOrder rates items)
order_only rates items = (
  (λ o.
      same_order rates items (order rates)
      (λ j k x y less at to. hotter_from rates x y (pairs_at (λ i j. is_hotter rates i j ≡ true) items j k x y o.hottest_first less at to))
      (order_in_order rates) (λ z h. has_order rates z ((o.members z).0 (has_contains items z h)))
      (λ z h. contains_has items z ((o.members z).1 (order_has rates z h)))),
  (λ e. subst (IsOrder rates) (sym e) (order_is_order rates)),
)

-- A list in order has nothing twice.
order_distinct : (rates : List ℕ) → Distinct (order rates)
order_distinct rates j k i a b = by (cases_lt j k) (cases_lt k j)
  where
    by : ((j < k) ⊎ (k ≤ j)) → ((k < j) ⊎ (j ≤ k)) → j ≡ k
    by (inl less) more = let h = order_in_order rates j k i i less a b in absurd (hotter_not rates i i h h)
    by (inr over) (inl less) = let h = order_in_order rates k j i i less b a in absurd (hotter_not rates i i h h)
    by (inr over) (inr under) = omega arith

-- ---- the cut
-- the disks hold the first items.
cut_front : (items : List ℕ) (specs : List DiskSpec) → (rest : List ℕ) × (all_items (cut items specs) ++ rest ≡ items)
unfolding cut all_items
cut_front items [] = (items, refl)
cut_front items (s ∷ specs) =
    let more = cut_front (drop s.size items) specs in
    (more.0, append_assoc (take s.size items) (all_items (cut (drop s.size items) specs)) more.0 ∙ ap (λ l. take s.size items ++ l) more.1 ∙ take-append-drop s.size items)

-- If the sizes add up to the number of items, the disks hold all items in order.
pub cut_items : (items : List ℕ) (specs : List DiskSpec) → sum_by (λ s. s.size) specs ≡ length items → all_items (cut items specs) ≡ items
unfolding cut all_items
cut_items items [] sum = sym (nil_from_length items (sym sum))
cut_items items (s ∷ specs) sum =
    ap (λ l. take s.size items ++ l) (cut_items (drop s.size items) specs (omega (arith, length-drop s.size items, sum_by-cons {X = DiskSpec} (λ s. s.size) s specs)))
    ∙ take-append-drop s.size items

cut_aired : (items : List ℕ) (specs : List DiskSpec) → ((n : ℕ) (s : DiskSpec) → slice_get specs n ≡ Some s → 0 < s.freq)
    → (n : ℕ) (d : Disk) → slice_get (cut items specs) n ≡ Some d → 0 < d.freq
unfolding cut
cut_aired items [] aired n d at = cc at
cut_aired items (s ∷ specs) aired zero d at = subst (λ (x : Disk). 0 < x.freq) (same_Some _ d at) (aired 0 s refl)
cut_aired items (s ∷ specs) aired (suc n) d at = cut_aired (drop s.size items) specs (λ n. aired (suc n)) n d at

pub cut_airable : (rates : List ℕ) (specs : List DiskSpec) → All (λ (s : DiskSpec). 0 < s.freq) specs → IsAirable (cut (order rates) specs)
cut_airable rates specs aired =
    let disks = cut (order rates) specs in
    let front = cut_front (order rates) specs in
    let distinct = Distinct-left (all_items disks) front.0 (subst Distinct (sym front.1) (order_distinct rates)) in record {
      aired = at_all (λ (d : Disk). 0 < d.freq) disks (cut_aired (order rates) specs (λ n s at. all_at (λ (s : DiskSpec). 0 < s.freq) specs n s aired at));
      apart = at_pairs (λ i j. i ≢ j) (all_items disks) (λ j k x y less at to e. let same = distinct j k y (at ∙ ap Some e) to in omega arith);
    }
