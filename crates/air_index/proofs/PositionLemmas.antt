-- The first place of a list that passes a test, lists of parts of one length, and products above 0.
use Rattle.std.proofs.Common.{◌≡◌, ◌≤◌, ◌<◌, ◌⊎◌, inl, inr, ◌+◌, ◌-◌, ◌*◌, ◌++◌, ℕ, zero, suc, zero-add, Bool, true, false, not, cond, List, [], ◌∷◌, drop, get_or, length, refl, sym, ◌∙◌, ap, arith}
use Rattle.std.specs.List.{flat_map, position_or_len, range_with_len}
use Rattle.std.proofs.Math.Nat.{suc-mul}
use Rattle.std.proofs.lemmas.Bool.{cases_lt}
use Rattle.std.proofs.lemmas.List.{drop-drop, drop_at}
use Rattle.std.proofs.lemmas.List.Sums.{fails_before_first}

pub first_here : {X : Type 0} (p : X → Bool) (x : X) (xs : List X) → p x ≡ true → position_or_len p (x ∷ xs) ≡ 0
first_here p x xs e = ap (λ t. cond (not t) (1 + position_or_len p xs) 0) e

pub first_later : {X : Type 0} (p : X → Bool) (x : X) (xs : List X) → p x ≡ false → position_or_len p (x ∷ xs) ≡ 1 + position_or_len p xs
first_later p x xs e = ap (λ t. cond (not t) (1 + position_or_len p xs) 0) e

pub first_within : {X : Type 0} (p : X → Bool) (xs : List X) → position_or_len p xs ≤ length xs
first_within p [] = omega arith
first_within p (x ∷ xs) = by (p x) refl (first_within p xs)
  where
    by : (b : Bool) → p x ≡ b → position_or_len p xs ≤ length xs → position_or_len p (x ∷ xs) ≤ suc (length xs)
    by true e rest = let is = first_here p x xs e in omega arith
    by false e rest = let is = first_later p x xs e in omega arith

-- In the first of two lists.
pub first_left : {X : Type 0} (p : X → Bool) (xs ys : List X) → position_or_len p xs < length xs → position_or_len p (xs ++ ys) ≡ position_or_len p xs
first_left p [] ys h = absurd (omega arith)
first_left p (x ∷ xs) ys h = by (p x) refl (λ less. first_left p xs ys less)
  where
    by : (b : Bool) → p x ≡ b → (position_or_len p xs < length xs → position_or_len p (xs ++ ys) ≡ position_or_len p xs) → position_or_len p (x ∷ (xs ++ ys)) ≡ position_or_len p (x ∷ xs)
    by true e rest = first_here p x (xs ++ ys) e ∙ sym (first_here p x xs e)
    by false e rest =
        let is = first_later p x xs e in
        first_later p x (xs ++ ys) e ∙ ap (λ k. 1 + k) (rest (omega arith)) ∙ sym is

-- In the second of them.
pub first_right : {X : Type 0} (p : X → Bool) (xs ys : List X) → position_or_len p xs ≡ length xs → position_or_len p (xs ++ ys) ≡ length xs + position_or_len p ys
first_right p [] ys h = sym (zero-add (position_or_len p ys))
first_right p (x ∷ xs) ys h = by (p x) refl (λ all. first_right p xs ys all)
  where
    by : (b : Bool) → p x ≡ b → (position_or_len p xs ≡ length xs → position_or_len p (xs ++ ys) ≡ length xs + position_or_len p ys)
        → position_or_len p (x ∷ (xs ++ ys)) ≡ suc (length xs) + position_or_len p ys
    by true e more = absurd (let is = first_here p x xs e in omega arith)
    by false e more =
        let is = first_later p x xs e in
        let rest = more (omega arith) in
        first_later p x (xs ++ ys) e ∙ omega arith

pub first_either : {X : Type 0} (p : X → Bool) (xs : List X) → (position_or_len p xs < length xs) ⊎ (position_or_len p xs ≡ length xs)
first_either p xs = by (cases_lt (position_or_len p xs) (length xs))
  where
    by : ((position_or_len p xs < length xs) ⊎ (length xs ≤ position_or_len p xs)) → (position_or_len p xs < length xs) ⊎ (position_or_len p xs ≡ length xs)
    by (inl less) = inl less
    by (inr more) = inr (let most = first_within p xs in omega arith)

pub left_from : {X : Type 0} (p : X → Bool) (xs ys : List X) → position_or_len p (xs ++ ys) < length xs → position_or_len p xs ≡ position_or_len p (xs ++ ys)
left_from p xs ys h = by (first_either p xs)
  where
    by : ((position_or_len p xs < length xs) ⊎ (position_or_len p xs ≡ length xs)) → position_or_len p xs ≡ position_or_len p (xs ++ ys)
    by (inl less) = sym (first_left p xs ys less)
    by (inr all) = absurd (let is = first_right p xs ys all in omega arith)

pub right_from : {X : Type 0} (p : X → Bool) (xs ys : List X) → length xs ≤ position_or_len p (xs ++ ys) → position_or_len p xs ≡ length xs
right_from p xs ys h = by (first_either p xs)
  where
    by : ((position_or_len p xs < length xs) ⊎ (position_or_len p xs ≡ length xs)) → position_or_len p xs ≡ length xs
    by (inl less) = absurd (let is = first_left p xs ys less in omega arith)
    by (inr all) = all

-- A place that passes isn't ahead of the first.
pub first_up_to : {X : Type 0} (p : X → Bool) (xs : List X) (k : ℕ) (d : X) → k < length xs → p (get_or xs k d) ≡ true → position_or_len p xs < length xs
first_up_to p xs k d below e = by (first_either p xs)
  where
    clash : true ≡ false → ⊥
    clash e = cc e

    by : ((position_or_len p xs < length xs) ⊎ (position_or_len p xs ≡ length xs)) → position_or_len p xs < length xs
    by (inl less) = less
    by (inr all) = absurd (clash (sym e ∙ fails_before_first p xs k d (omega arith)))

-- The same list without its first member, which doesn't pass.
pub first_skipped : {X : Type 0} (p : X → Bool) (x : X) (xs ys : List X) → p x ≡ false → position_or_len p (drop 1 (x ∷ xs) ++ ys) + 1 ≡ position_or_len p ((x ∷ xs) ++ ys)
first_skipped p x xs ys e = let is = first_later p x (xs ++ ys) e in omega arith

-- ---- parts of one length

pub drop_even : {X : Type 0} (f : ℕ → List X) (l a n m : ℕ) → ((k : ℕ) → length (f k) ≡ l) → m ≤ n → drop (m * l) (flat_map f (range_with_len a n)) ≡ flat_map f (range_with_len (a + m) (n - m))
drop_even f l a n zero even within =
    let none : 0 * l ≡ 0 = omega arith in let same : a + 0 ≡ a = omega arith in let all : n - 0 ≡ n = omega arith in
    rw (none, same, all) refl
drop_even f l a zero (suc m) even within = absurd (omega arith)
drop_even f l a (suc n) (suc m) even within =
    let rest = flat_map f (range_with_len (a + 1) n) in
    let first : suc m * l ≡ l + m * l = (let k = suc-mul m l in omega arith) in
    let at : a + 1 + m ≡ a + suc m = omega arith in
    let left : n - m ≡ suc n - suc m = omega arith in
    ap (λ k. drop k (f a ++ rest)) first ∙ sym (drop-drop (m * l) l (f a ++ rest)) ∙ ap (drop (m * l)) (drop_at (f a) rest l (even a)) ∙ drop_even f l (a + 1) n m even (omega arith)
    ∙ ap (λ k. flat_map f (range_with_len k (n - m))) at ∙ ap (λ k. flat_map f (range_with_len (a + suc m) k)) left

-- ---- products

pub positive : (a b n : ℕ) → n < a * b → (0 < a) × (0 < b)
positive zero b n h = absurd (omega arith)
positive (suc a) zero n h = absurd (omega arith)
positive (suc a) (suc b) n h = (omega arith, omega arith)
