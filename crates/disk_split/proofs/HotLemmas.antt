-- The rates hottest first: a sort by greater rate gives just these, since two falling lists that hold each number equally often are one.
use Rattle.std.proofs.Common.{◌≡◌, ◌≤◌, ◌<◌, ◌⊎◌, inl, inr, ◌+◌, ◌==◌, ℕ, suc, Bool, true, false, cond, List, [], ◌∷◌, length, get_or, slice_index, map, refl, sym, ap, ◌∙◌, arith}
use Rattle.std.specs.declared.cmp.Ordering.{Ordering}
use Rattle.std.specs.declared.cmp.Reverse.{Reverse}
use Rattle.std.specs.Cmp.{IsTotalOrder}
use Rattle.std.specs.List.{All, AllPairs, fold, range_with_len, sum_by}
use Rattle.std.specs.List.Sorted.{IsPermutation, IsSorted}
use Rattle.std.specs.Ordering.{is_lt, nat_cmp}
use Rattle.std.proofs.lemmas.Bool.{cases_lt}
use Rattle.std.proofs.lemmas.Bool.Decides.{nat_tests}
use Rattle.std.proofs.lemmas.Cmp.{back_total, nat_cmp_total, on_total}
use Rattle.std.proofs.lemmas.List.{get_or-map, length-map}
use Rattle.std.proofs.lemmas.List.Elements.{All-head, All-tail}
use Rattle.std.proofs.lemmas.List.FromFn.{fill_by_all}
use Rattle.std.proofs.lemmas.List.Sorted.{IsPermutation-map, ranks_by, sorted_far, sum_by-IsPermutation}
use Rattle.std.proofs.lemmas.List.Sums.{sum_by-cons}
use Rattle.air_model.specs.Decks.{Deck, rates_in}
use Rattle.air_model.specs.Disks.{is_hotter, order, order_with}
use Rattle.air_model.proofs.ItemOrder.{order_only}
use Rattle.disk_split.specs.Numbers.{hot_rates}

-- ---- sums over the order
sum_with : (g : ℕ → ℕ) (rates js : List ℕ) (i : ℕ) → sum_by g (order_with rates js i) ≡ g i + sum_by g js
unfolding order_with
sum_with g rates [] i = sum_by-cons g i []
sum_with g rates (j ∷ js) i = by (is_hotter rates i j) (sum_with g rates js i)
  where
    by : (b : Bool) → sum_by g (order_with rates js i) ≡ g i + sum_by g js → sum_by g (cond b (i ∷ j ∷ js) (j ∷ order_with rates js i)) ≡ g i + sum_by g (j ∷ js)
    by true later = sum_by-cons g i (j ∷ js)
    by false later = let one = sum_by-cons g j (order_with rates js i) in let two = sum_by-cons g j js in omega arith

sum_sorted : (g : ℕ → ℕ) (rates js is : List ℕ) → sum_by g (fold (order_with rates) js is) ≡ sum_by g js + sum_by g is
sum_sorted g rates js [] = omega arith
sum_sorted g rates js (i ∷ is) =
    let rest = sum_sorted g rates (order_with rates js i) is in let one = sum_with g rates js i in let two = sum_by-cons g i is in omega arith

-- A sum over the order is the sum over all items.
pub sum_order : (g : ℕ → ℕ) (rates : List ℕ) → sum_by g (order rates) ≡ sum_by g (range_with_len 0 (length rates))
unfolding order
sum_order g rates = let all = sum_sorted g rates [] (range_with_len 0 (length rates)) in omega arith

pub sum_map : {X : Type 0} (g : ℕ → ℕ) (f : X → ℕ) (xs : List X) → sum_by g (map f xs) ≡ sum_by (λ x. g (f x)) xs
sum_map g f [] = refl
sum_map g f (x ∷ xs) = let rest = sum_map g f xs in let one = sum_by-cons g (f x) (map f xs) in let two = sum_by-cons (λ y. g (f y)) x xs in omega arith

-- ---- falling lists
abbrev Falls : List ℕ → Type 0
Falls xs = AllPairs (λ x y. y ≤ x) xs

abbrev one_at : ℕ → ℕ → ℕ
one_at v x = cond (x == v) 1 0

-- How often a number is in a list.
abbrev often : ℕ → List ℕ → ℕ
often v xs = sum_by (one_at v) xs

falls_head : (x : ℕ) (xs : List ℕ) → Falls (x ∷ xs) → All (λ y. y ≤ x) xs
falls_head x xs falls = λ k d below. falls 0 (suc k) d (omega arith) (omega arith)

falls_tail : (x : ℕ) (xs : List ℕ) → Falls (x ∷ xs) → Falls xs
falls_tail x xs falls = λ j k d less below. falls (suc j) (suc k) d (omega arith) (omega arith)

not_one : (v x : ℕ) → x < v → one_at v x ≡ 0
not_one v x less = grind (arith, nat_tests)

one_itself : (x : ℕ) → one_at x x ≡ 1
one_itself x = grind (arith, nat_tests)

none_above : (v b : ℕ) (xs : List ℕ) → All (λ y. y ≤ b) xs → b < v → often v xs ≡ 0
none_above v b [] low less = refl
none_above v b (x ∷ xs) low less =
    let rest = none_above v b xs (All-tail (λ y. y ≤ b) x xs low) less in
    let own = All-head (λ y. y ≤ b) x xs low in let none = not_one v x (omega arith) in let all = sum_by-cons (one_at v) x xs in omega arith

-- The head of a falling list is at least each number of the list.
heads : (x y : ℕ) (xs ys : List ℕ) → Falls (y ∷ ys) → often x (x ∷ xs) ≡ often x (y ∷ ys) → x ≤ y
heads x y xs ys falls same = by (cases_lt y x)
  where
    by : ((y < x) ⊎ (x ≤ y)) → x ≤ y
    by (inl less) = absurd (
        let none = none_above x y ys (falls_head y ys falls) less in let no = not_one x y less in let all = sum_by-cons (one_at x) y ys in
        let one = one_itself x in let own = sum_by-cons (one_at x) x xs in omega arith)
    by (inr more) = more

same_falling : (xs ys : List ℕ) → Falls xs → Falls ys → ((v : ℕ) → often v xs ≡ often v ys) → xs ≡ ys
same_falling [] [] a b same = refl
same_falling [] (y ∷ ys) a b same = absurd (let e = same y in let one = one_itself y in let all = sum_by-cons (one_at y) y ys in omega arith)
same_falling (x ∷ xs) [] a b same = absurd (let e = same x in let one = one_itself x in let all = sum_by-cons (one_at x) x xs in omega arith)
same_falling (x ∷ xs) (y ∷ ys) a b same =
    let up = heads x y xs ys b (same x) in let down = heads y x ys xs a (sym (same y)) in
    let head : x ≡ y = omega arith in
    let tail : xs ≡ ys = same_falling xs ys (falls_tail x xs a) (falls_tail y ys b)
    (λ v. let e = same v in let one = sum_by-cons (one_at v) x xs in let two = sum_by-cons (one_at v) y ys in let h = ap (one_at v) head in omega arith) in
    rw (head, tail) refl

-- ---- the rates hottest first
hot_falls : (deck : Deck) → Falls (hot_rates deck)
unfolding hot_rates
hot_falls deck j k d less below = by (get_or is j 0) (get_or is k 0) (hot j k 0 less within) at to
  where
    rates : List ℕ
    rates = rates_in deck

    is : List ℕ
    is = order (rates_in deck)

    hot : AllPairs (λ i j. is_hotter (rates_in deck) i j ≡ true) (order (rates_in deck))
    hot = ((order_only (rates_in deck) (order (rates_in deck))).1 refl).hottest_first

    within : k < length (order (rates_in deck))
    within = omega (arith, length-map (order (rates_in deck)) (slice_index (rates_in deck)))

    at : get_or (map (slice_index (rates_in deck)) (order (rates_in deck))) j d ≡ slice_index (rates_in deck) (get_or (order (rates_in deck)) j 0)
    at = get_or-map (slice_index (rates_in deck)) (order (rates_in deck)) j 0 d (let w = within in omega arith)

    to : get_or (map (slice_index (rates_in deck)) (order (rates_in deck))) k d ≡ slice_index (rates_in deck) (get_or (order (rates_in deck)) k 0)
    to = get_or-map (slice_index (rates_in deck)) (order (rates_in deck)) k 0 d within

    by : (x y : ℕ) → is_hotter (rates_in deck) x y ≡ true → get_or (map (slice_index (rates_in deck)) (order (rates_in deck))) j d ≡ slice_index (rates_in deck) x
        → get_or (map (slice_index (rates_in deck)) (order (rates_in deck))) k d ≡ slice_index (rates_in deck) y
        → get_or (map (slice_index (rates_in deck)) (order (rates_in deck))) k d ≤ get_or (map (slice_index (rates_in deck)) (order (rates_in deck))) j d
    by x y hotter e f = let low : slice_index (rates_in deck) y ≤ slice_index (rates_in deck) x = hotter_rate (rates_in deck) x y hotter in omega arith
      where
        hotter_rate : (rates : List ℕ) (x y : ℕ) → is_hotter rates x y ≡ true → slice_index rates y ≤ slice_index rates x
        hotter_rate rates x y e = grind (arith, nat_tests)

hot_often : (deck : Deck) (v : ℕ) → often v (hot_rates deck) ≡ often v (rates_in deck)
unfolding hot_rates
hot_often deck v =
    let all : rates_in deck ≡ map (slice_index (rates_in deck)) (range_with_len 0 (length (rates_in deck))) = fill_by_all (slice_index (rates_in deck)) (rates_in deck) (length (rates_in deck)) 0 refl (λ k below. refl) in
    sum_map (one_at v) (slice_index (rates_in deck)) (order (rates_in deck)) ∙ sum_order (λ i. one_at v (slice_index (rates_in deck) i)) (rates_in deck)
    ∙ sym (sum_map (one_at v) (slice_index (rates_in deck)) (range_with_len 0 (length (rates_in deck)))) ∙ ap (often v) (sym all)

-- The order by which the rates are sorted.
abbrev pub rate_cmp : Reverse ℕ → Reverse ℕ → Ordering
rate_cmp x y = nat_cmp y.0 x.0

rate_total : IsTotalOrder rate_cmp
rate_total = on_total (λ (r : Reverse ℕ). r.0) (back_total nat_cmp_total)

abbrev pub rate_of : Reverse ℕ → ℕ
rate_of r = r.0

pub sorted_hot : (deck : Deck) (rates sorted : List (Reverse ℕ)) → map rate_of rates ≡ rates_in deck → IsPermutation rates sorted → IsSorted rate_cmp sorted → map rate_of sorted ≡ hot_rates deck
sorted_hot deck rates sorted are moved up = same_falling (map rate_of sorted) (hot_rates deck) falls (hot_falls deck) same
  where
    same : (v : ℕ) → often v (map rate_of sorted) ≡ often v (hot_rates deck)
    same v = sum_by-IsPermutation (one_at v) (map rate_of rates) (map rate_of sorted) (IsPermutation-map rate_of rates sorted moved) ∙ ap (often v) are ∙ sym (hot_often deck v)

    far : (j k : ℕ) (d : Reverse ℕ) → j ≤ k → k < length sorted → is_lt (rate_cmp (get_or sorted k d) (get_or sorted j d)) ≡ false
    far j k d = sorted_far (λ a b. is_lt (rate_cmp a b)) (ranks_by rate_total (λ r. r)) sorted up j k d

    less_or_same : (x y : ℕ) → is_lt (nat_cmp x y) ≡ false → y ≤ x
    less_or_same x y e = grind (arith, nat_tests)

    falls : AllPairs (λ x y. y ≤ x) (map rate_of sorted)
    falls j k d less below =
        let none : Reverse ℕ = record { 0 = 0 } in
        let within : k < length sorted = omega (arith, length-map sorted rate_of) in
        let at = get_or-map rate_of sorted j none d (omega arith) in let to = get_or-map rate_of sorted k none d within in
        let low = less_or_same (get_or sorted j none).0 (get_or sorted k none).0 (far j k none (omega arith) within) in omega arith
