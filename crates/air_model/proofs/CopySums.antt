-- How many copies stay, and that no choice of as many has a greater sum. The ranks of copies of different items differ, so one
-- copy has each rank. Some number lies between the PIX numbers of the copies that stay and those of the others, from which
-- every sum is compared (`keep_most`).
use Rattle.std.proofs.Common.{◌≡◌, ◌≢◌, ℕ, zero, suc, ◌<◌, ◌≤◌, ◌+◌, ◌-◌, ◌*◌, Bool, true, false, cond, ◌==◌, ◌++◌, ◌⊎◌, inl, inr, nat_lt, List, [], ◌∷◌, length, get_or, All, refl, sym, ◌∙◌, ap, arith, IsPermutation}
use Rattle.std.specs.Prelude.{min, max, AllPairs}
use Rattle.std.specs.List.{filter, count_by, sum_by}
use Rattle.std.proofs.Math.Nat.{min-le_left, min-le_right, le-min, le-max_left, le-max_right, max-le, mul-add, mul-le-mul_left, min-eq_left, min-eq_right}
use Rattle.std.proofs.lemmas.Bool.{cases_eq, cases_lt, cases_order, eq-eqb, ltb-false, ne_eqb, eqb-true, false≢true, le-ltb, lt-ltb, ltb-true}
use Rattle.std.proofs.lemmas.List.Elements.{All-append, All-cons, All-head, All-tail}
use Rattle.std.proofs.lemmas.List.Kept.{AllPairs-cons, AllPairs-filter}
use Rattle.std.proofs.lemmas.List.Sorted.{All-permutation, IsPermutation-sym, sum_by-IsPermutation}
use Rattle.std.proofs.lemmas.List.Sums.{length-filter, sum_by-append, sum_by-cons}
use Rattle.air_model.specs.Copies.{HaveOwnItems, goes_before, keep, pix_of, with_copy}
use Rattle.air_model.specs.Reads.{Read}
use Rattle.air_model.proofs.CopyOrders.{count_all, count_cons, count_missing, goes_to, itself, keep_all, one_goes, rank, rank_less}

-- ---- how many stay
count_none : (p : Read → Bool) (R : List Read) → All (λ r. p r ≡ false) R → count_by p R ≡ 0
count_none p [] h = refl
count_none p (r ∷ R) h =
    let rest = count_none p R (All-tail (λ r. p r ≡ false) r R h) in
    let head : ◌≡◌ {A = ℕ} (cond (p r) 1 0) 0 = ap (λ b. cond b 1 0) (All-head (λ r. p r ≡ false) r R h) in
    let sum = count_cons p r R in
    omega arith

-- No two places have the same number.
abbrev Differ : (Read → ℕ) → List Read → Type 0
Differ g R = (j k : ℕ) (d : Read) → j < length R → k < length R → g (get_or R j d) ≡ g (get_or R k d) → j ≡ k

count_one : (g : Read → ℕ) (v : ℕ) (R : List Read) → Differ g R → count_by (λ r. g r == v) R ≤ 1
count_one g v [] h = omega arith
count_one g v (r ∷ R) h = by (g r == v) refl (count_one g v R (λ j k d l m e. let s : suc j ≡ suc k = h (suc j) (suc k) d (omega arith) (omega arith) e in omega arith))
  where
    by : (b : Bool) → (g r == v) ≡ b → count_by (λ r. g r == v) R ≤ 1 → count_by (λ r. g r == v) (r ∷ R) ≤ 1
    by true e one =
        let same : g r ≡ v = eqb-true (g r) v e in
        let none : All (λ x. (g x == v) ≡ false) R = λ k d l. ne_eqb (g (get_or R k d)) v (λ f. absurd (let s : 0 ≡ suc k = h 0 (suc k) d (omega arith) (omega arith) (same ∙ sym f) in omega arith)) in
        let rest = count_none (λ x. g x == v) R none in
        let head : ◌≡◌ {A = ℕ} (cond (g r == v) 1 0) 1 = ap (λ b. cond b 1 0) e in
        let sum = count_cons (λ x. g x == v) r R in
        omega arith
    by false e one =
        let head : ◌≡◌ {A = ℕ} (cond (g r == v) 1 0) 0 = ap (λ b. cond b 1 0) e in
        let sum = count_cons (λ x. g x == v) r R in
        omega arith

-- How the count of numbers below n grows with n.
below_next : (m n : ℕ) → cond (nat_lt m (n + 1)) 1 0 ≤ cond (nat_lt m n) 1 0 + cond (m == n) 1 0
below_next m n = by (cases_lt m n) (cases_eq m n) (cases_lt m (n + 1))
  where
    by : (m < n) ⊎ (n ≤ m) → (m ≡ n) ⊎ (m ≡ n → ⊥) → (m < n + 1) ⊎ (n + 1 ≤ m) → cond (nat_lt m (n + 1)) 1 0 ≤ cond (nat_lt m n) 1 0 + cond (m == n) 1 0
    by (inl less) b c = rw (lt-ltb m n less, lt-ltb m (n + 1) (omega arith)) (omega arith)
    by (inr high) (inl same) c = rw (le-ltb m n high, eq-eqb m n same, lt-ltb m (n + 1) (omega arith)) (omega arith)
    by (inr high) (inr ne) (inl less) = absurd (ne (omega arith))
    by (inr high) (inr ne) (inr more) = rw (le-ltb m n high, ne_eqb m n ne, le-ltb m (n + 1) more) (omega arith)

count_next : (g : Read → ℕ) (n : ℕ) (R : List Read) → count_by (λ r. nat_lt (g r) (n + 1)) R ≤ count_by (λ r. nat_lt (g r) n) R + count_by (λ r. g r == n) R
count_next g n [] = omega arith
count_next g n (r ∷ R) =
    let rest = count_next g n R in
    let head = below_next (g r) n in
    let one = count_cons (λ r. nat_lt (g r) (n + 1)) r R in
    let two = count_cons (λ r. nat_lt (g r) n) r R in
    let three = count_cons (λ r. g r == n) r R in
    omega arith

count_up : (g : Read → ℕ) (R : List Read) (n j : ℕ) → Differ g R → count_by (λ r. nat_lt (g r) (n + j)) R ≤ count_by (λ r. nat_lt (g r) n) R + j
count_up g R n zero h = let e : n + 0 ≡ n = omega arith in let same = ap (λ m. count_by (λ r. nat_lt (g r) m) R) e in omega arith
count_up g R n (suc j) h =
    let e : n + suc j ≡ n + j + 1 = omega arith in
    let same = ap (λ m. count_by (λ r. nat_lt (g r) m) R) e in
    let before = count_up g R n j h in
    let next = count_next g (n + j) R in
    let one = count_one g (n + j) R h in
    omega arith

count_start : (g : Read → ℕ) (R : List Read) → count_by (λ r. nat_lt (g r) 0) R ≡ 0
count_start g R = count_none (λ r. nat_lt (g r) 0) R (λ k d l. le-ltb (g (get_or R k d)) 0 (omega arith))

-- Copies of different items have different ranks.
ranks_differ : (pix : List ℕ) (copies : List Read) → AllPairs (λ a b. a.item ≢ b.item) copies → Differ (rank pix copies) copies
ranks_differ pix copies own j k d l m e = by (cases_order j k)
  where
    ordered : (goes_before pix (get_or copies j d) (get_or copies k d) ≡ true) ⊎ (goes_before pix (get_or copies k d) (get_or copies j d) ≡ true) → ⊥
    ordered (inl before) = let less = rank_less pix copies j d (get_or copies k d) l before in omega arith
    ordered (inr before) = let less = rank_less pix copies k d (get_or copies j d) m before in omega arith

    by : (j ≡ k) ⊎ ((j < k) ⊎ (k < j)) → j ≡ k
    by (inl same) = same
    by (inr (inl less)) = absurd (ordered (one_goes pix (get_or copies j d) (get_or copies k d) (own j k d less m)))
    by (inr (inr more)) = absurd (ordered (one_goes pix (get_or copies j d) (get_or copies k d) (λ same. own k j d more l (sym same))))

pub keep_count : (room : ℕ) (pix : List ℕ) (copies : List Read) → AllPairs (λ a b. a.item ≢ b.item) copies → length (keep room pix copies) ≡ min room (length copies)
unfolding keep
keep_count room pix copies own = by (cases_lt room (length copies))
  where
    by : (room < length copies) ⊎ (length copies ≤ room) → length (keep room pix copies) ≡ min room (length copies)
    by (inl less) =
        let g = rank pix copies in
        let n = length copies in
        let h = ranks_differ pix copies own in
        let join : room + (n - room) ≡ n = omega arith in
        let all : count_by (λ r. nat_lt (g r) n) copies ≡ n = count_all (λ r. nat_lt (g r) n) copies (λ k d l. lt-ltb _ _ (count_missing (λ b. goes_before pix b (get_or copies k d)) copies k d l (itself pix (get_or copies k d)))) in
        let top = count_up g copies room (n - room) h in
        let same = ap (λ m. count_by (λ r. nat_lt (g r) m) copies) join in
        let bottom = count_up g copies 0 room h in
        let zero_plus : 0 + room ≡ room = omega arith in
        let start = ap (λ m. count_by (λ r. nat_lt (g r) m) copies) zero_plus in
        let none = count_start g copies in
        let long = length-filter (λ r. nat_lt (g r) room) copies in
        let small : min room n ≡ room = min-eq_left (omega arith) in
        omega arith
    by (inr room_for) =
        let small : min room (length copies) ≡ length copies = min-eq_right room_for in
        ap length (keep_all room pix copies room_for) ∙ sym small

-- ---- a newcomer
-- what a test leaves passes it.
passing : (f : Read → Bool) (R : List Read) → All (λ r. f r ≡ true) (filter f R)
passing f [] = λ k d l. absurd (omega arith)
passing f (r ∷ R) = by (f r) refl (passing f R)
  where
    by : (b : Bool) → f r ≡ b → All (λ r. f r ≡ true) (filter f R) → All (λ r. f r ≡ true) (cond b (r ∷ filter f R) (filter f R))
    by true e h = All-cons (λ r. f r ≡ true) r (filter f R) e h
    by false e h = h

-- Copies of lesser items, one copy, and copies of greater items are together by rising item.
rising : (x : Read) (A B : List Read) → HaveOwnItems A → HaveOwnItems B → All (λ r. r.item < x.item) A → All (λ r. x.item < r.item) B → HaveOwnItems (A ++ x ∷ B)
rising x [] B a b below above = AllPairs-cons (λ a b. a.item < b.item) x B above b
rising x (r ∷ A) B a b below above =
    let here : r.item < x.item = All-head (λ r. r.item < x.item) r A below in
    AllPairs-cons (λ a b. a.item < b.item) r (A ++ x ∷ B)
    (All-append (λ s. r.item < s.item) A (x ∷ B) (λ k d l. a 0 (suc k) d (omega arith) (omega arith))
    (All-cons (λ s. r.item < s.item) x B here (λ k d l. let over = above k d l in omega arith)))
    (rising x A B (λ i j d l m. a (suc i) (suc j) d (omega arith) (omega arith)) b (All-tail (λ r. r.item < x.item) r A below) above)

pub keep_own : (room : ℕ) (pix : List ℕ) (copies : List Read) (x : Read) → HaveOwnItems copies → HaveOwnItems (keep room pix (with_copy x copies))
unfolding keep with_copy
keep_own room pix copies x own =
    AllPairs-filter (λ a b. a.item < b.item) (λ a. nat_lt (rank pix (with_copy x copies) a) room) (with_copy x copies)
    (rising x (filter (λ r. nat_lt r.item x.item) copies) (filter (λ r. nat_lt x.item r.item) copies)
    (AllPairs-filter (λ a b. a.item < b.item) (λ r. nat_lt r.item x.item) copies own)
    (AllPairs-filter (λ a b. a.item < b.item) (λ r. nat_lt x.item r.item) copies own)
    (λ k d l. ltb-true _ _ (passing (λ r. nat_lt r.item x.item) copies k d l))
    (λ k d l. ltb-true _ _ (passing (λ r. nat_lt x.item r.item) copies k d l)))

-- ---- sums
sum_kept : (f : Read → ℕ) (p : Read → Bool) (R : List Read) → sum_by f (filter p R) ≡ sum_by (λ x. cond (p x) (f x) 0) R
sum_kept f p [] = refl
sum_kept f p (r ∷ R) =
    let rest = sum_kept f p R in
    let sum = sum_by-cons (λ x. cond (p x) (f x) 0) r R in
    let head = by (p r) in
    omega arith
  where
    by : (b : Bool) → sum_by f (cond b (r ∷ filter p R) (filter p R)) ≡ cond b (f r) 0 + sum_by f (filter p R)
    by true = sum_by-cons f r (filter p R)
    by false = omega arith

-- The number m lies between what stays and what goes.
abbrev Parts : (Read → ℕ) → (Read → Bool) → ℕ → Read → Type 0
Parts f p m x = (p x ≡ true → m ≤ f x) × (p x ≡ false → f x ≤ m)

-- If nothing that goes is above what stays, such a number exists.
between : (f : Read → ℕ) (p : Read → Bool) (R : List Read)
    → ((j k : ℕ) (d : Read) → j < length R → k < length R → p (get_or R j d) ≡ false → p (get_or R k d) ≡ true → f (get_or R j d) ≤ f (get_or R k d))
    → (m : ℕ) × All (Parts f p m) R
between f p [] h = (0, λ k d l. absurd (omega arith))
between f p (r ∷ R) h = by (p r) refl (between f p R (λ j k d l m. h (suc j) (suc k) d (omega arith) (omega arith)))
  where
    by : (b : Bool) → p r ≡ b → (m : ℕ) × All (Parts f p m) R → (m : ℕ) × All (Parts f p m) (r ∷ R)
    by true e t =
        let n = min t.0 (f r) in
        let low = min-le_left t.0 (f r) in
        let head : n ≤ f r = min-le_right t.0 (f r) in (
          n,
          All-cons (Parts f p n) r R ((λ _. head), (λ g. absurd (false≢true (sym g ∙ e))))
              (λ k d l. let x = t.1 k d l in ((λ g. let y = x.0 g in omega arith), (λ g. le-min (x.1 g) (h (suc k) 0 d (omega arith) (omega arith) g e)))),
        )
    by false e t =
        let n = max t.0 (f r) in
        let low = le-max_left t.0 (f r) in
        let head : f r ≤ n = le-max_right t.0 (f r) in (
          n,
          All-cons (Parts f p n) r R ((λ g. absurd (false≢true (sym e ∙ g))), (λ _. head))
              (λ k d l. let x = t.1 k d l in ((λ g. max-le (x.0 g) (h 0 (suc k) d (omega arith) (omega arith) e g)), (λ g. let y = x.1 g in omega arith))),
        )

-- By such a number, one chosen copy is compared with what stays of it.
one_chosen : (f : Read → ℕ) (p : Read → Bool) (m : ℕ) (x : Read) → Parts f p m x → f x + m * cond (p x) 1 0 ≤ cond (p x) (f x) 0 + m
one_chosen f p m x t = by (p x) refl
  where
    by : (b : Bool) → p x ≡ b → f x + m * cond b 1 0 ≤ cond b (f x) 0 + m
    by true e = omega arith
    by false e = let high = t.1 e in omega arith

one_left : (f : Read → ℕ) (p : Read → Bool) (m : ℕ) (x : Read) → Parts f p m x → m * cond (p x) 1 0 ≤ cond (p x) (f x) 0
one_left f p m x t = by (p x) refl
  where
    by : (b : Bool) → p x ≡ b → m * cond b 1 0 ≤ cond b (f x) 0
    by true e = let low = t.0 e in omega arith
    by false e = omega arith

chosen_sum : (f : Read → ℕ) (p : Read → Bool) (m : ℕ) (R : List Read) → All (Parts f p m) R → sum_by f R + m * count_by p R ≤ sum_by (λ x. cond (p x) (f x) 0) R + m * length R
chosen_sum f p m [] t = omega arith
chosen_sum f p m (r ∷ R) t =
    let rest = chosen_sum f p m R (All-tail (Parts f p m) r R t) in
    let head = one_chosen f p m r (All-head (Parts f p m) r R t) in
    let one = sum_by-cons f r R in
    let two = sum_by-cons (λ x. cond (p x) (f x) 0) r R in
    let count = ap (λ n. m * n) (count_cons p r R) ∙ mul-add m (cond (p r) 1 0) (count_by p R) in
    let long : m * suc (length R) ≡ m + m * length R = omega arith in
    omega arith

left_sum : (f : Read → ℕ) (p : Read → Bool) (m : ℕ) (R : List Read) → All (Parts f p m) R → m * count_by p R ≤ sum_by (λ x. cond (p x) (f x) 0) R
left_sum f p m [] t = omega arith
left_sum f p m (r ∷ R) t =
    let rest = left_sum f p m R (All-tail (Parts f p m) r R t) in
    let head = one_left f p m r (All-head (Parts f p m) r R t) in
    let two = sum_by-cons (λ x. cond (p x) (f x) 0) r R in
    let count = ap (λ n. m * n) (count_cons p r R) ∙ mul-add m (cond (p r) 1 0) (count_by p R) in
    omega arith

-- No copy that goes is worth more than one that stays.
none_above : (room : ℕ) (pix : List ℕ) (copies : List Read) (j k : ℕ) (d : Read) → j < length copies → k < length copies
    → nat_lt (rank pix copies (get_or copies j d)) room ≡ false → nat_lt (rank pix copies (get_or copies k d)) room ≡ true → pix_of pix (get_or copies j d) ≤ pix_of pix (get_or copies k d)
none_above room pix copies j k d l m out stays = by (cases_lt (pix_of pix (get_or copies k d)) (pix_of pix (get_or copies j d)))
  where
    by : (pix_of pix (get_or copies k d) < pix_of pix (get_or copies j d)) ⊎ (pix_of pix (get_or copies j d) ≤ pix_of pix (get_or copies k d)) → pix_of pix (get_or copies j d) ≤ pix_of pix (get_or copies k d)
    by (inr low) = low
    by (inl high) = absurd (
        let less = rank_less pix copies j d (get_or copies k d) l (goes_to pix (get_or copies j d) (get_or copies k d) (inl high)) in
        let in_room = ltb-true _ _ stays in
        let no_room = ltb-false _ _ out in
        omega arith)

in_front : (P : Read → Type 0) (xs ys : List Read) → All P (xs ++ ys) → All P xs
in_front P [] ys h = λ k d l. absurd (omega arith)
in_front P (x ∷ xs) ys h = All-cons P x xs (All-head P x (xs ++ ys) h) (in_front P xs ys (All-tail P x (xs ++ ys) h))

behind : (P : Read → Type 0) (xs ys : List Read) → All P (xs ++ ys) → All P ys
behind P [] ys h = h
behind P (x ∷ xs) ys h = behind P xs ys (All-tail P x (xs ++ ys) h)

pub keep_most : (room : ℕ) (pix : List ℕ) (copies chosen rest : List Read) → IsPermutation (chosen ++ rest) copies → length chosen ≤ length (keep room pix copies) →
    sum_by (pix_of pix) chosen ≤ sum_by (pix_of pix) (keep room pix copies)
unfolding keep
keep_most room pix copies chosen rest parts few =
    let f : Read → ℕ = pix_of pix in
    let p : Read → Bool = λ a. nat_lt (rank pix copies a) room in
    let t = between f p copies (none_above room pix copies) in
    let m = t.0 in
    let all : All (Parts f p m) (chosen ++ rest) = All-permutation (Parts f p m) copies (chosen ++ rest) (IsPermutation-sym (chosen ++ rest) copies parts) t.1 in
    let one = chosen_sum f p m chosen (in_front (Parts f p m) chosen rest all) in
    let two = left_sum f p m rest (behind (Parts f p m) chosen rest all) in
    let kept = sum_kept f p copies in
    let moved = sum_by-IsPermutation (λ x. cond (p x) (f x) 0) (chosen ++ rest) copies parts in
    let joined = sum_by-append (λ x. cond (p x) (f x) 0) chosen rest in
    let count_moved = sum_by-IsPermutation (λ x. cond (p x) 1 0) (chosen ++ rest) copies parts in
    let count_joined = sum_by-append (λ x. cond (p x) 1 0) chosen rest in
    let long = length-filter p copies in
    let room_for : length chosen ≤ count_by p chosen + count_by p rest = omega arith in
    let times = mul-le-mul_left m room_for in
    let split = mul-add m (count_by p chosen) (count_by p rest) in
    omega arith
