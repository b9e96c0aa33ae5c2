-- How many elements pass a test that splits a list.
use Rattle.std.proofs.Common.{◌≡◌, ℕ, zero, suc, ◌+◌, ◌<◌, ◌≤◌, Bool, true, false, cond, List, [], ◌∷◌, ◌++◌, length, get_or, count_by, ◌∙◌, ap, arith, zero-add, add-zero}
use Rattle.std.proofs.Math.Numerals.{one-add}
use Rattle.std.proofs.lemmas.List.Sums.{sum_by-cons, sum_by-append}

module _ {X : Type 0} (p : X → Bool) where
  cons_yes : (x : X) (xs : List X) → p x ≡ true → count_by p (x ∷ xs) ≡ suc (count_by p xs)
  cons_yes x xs e = sum_by-cons (λ x. cond (p x) 1 0) x xs ∙ ap (λ b. cond b 1 0 + count_by p xs) e ∙ one-add (count_by p xs)

  cons_no : (x : X) (xs : List X) → p x ≡ false → count_by p (x ∷ xs) ≡ count_by p xs
  cons_no x xs e = sum_by-cons (λ x. cond (p x) 1 0) x xs ∙ ap (λ b. cond b 1 0 + count_by p xs) e ∙ zero-add (count_by p xs)

  -- The elements before a place pass, and those from it on don't.
  pub split_count : (xs : List X) (n : ℕ) → n ≤ length xs → ((k : ℕ) (d : X) → k < n → p (get_or xs k d) ≡ true) → ((k : ℕ) (d : X) → n ≤ k → k < length xs → p (get_or xs k d) ≡ false) → count_by p xs ≡ n
  split_count [] n l pass fail = let e : 0 ≡ n = omega arith in e
  split_count (x ∷ xs) zero l pass fail = cons_no x xs (fail 0 x (omega arith) (omega arith)) ∙ split_count xs zero (omega arith) (λ k d h. absurd (omega arith)) (λ k d h m. fail (suc k) d (omega arith) (omega arith))
  split_count (x ∷ xs) (suc n) l pass fail = cons_yes x xs (pass 0 x (omega arith)) ∙ ap suc (split_count xs n (omega arith) (λ k d h. pass (suc k) d (omega arith)) (λ k d h m. fail (suc k) d (omega arith) (omega arith)))

  -- All of a list pass, and none of another that follows it.
  pub front_count : (xs ys : List X) → ((k : ℕ) (d : X) → k < length xs → p (get_or xs k d) ≡ true) → ((k : ℕ) (d : X) → k < length ys → p (get_or ys k d) ≡ false) → count_by p (xs ++ ys) ≡ length xs
  front_count xs ys pass fail =
      sum_by-append (λ x. cond (p x) 1 0) xs ys
      ∙ ap (λ n. n + count_by p ys) (split_count xs (length xs) (omega arith) pass (λ k d a b. absurd (omega arith)))
      ∙ ap (λ n. length xs + n) (split_count ys 0 (omega arith) (λ k d a. absurd (omega arith)) (λ k d a b. fail k d b))
      ∙ add-zero (length xs)
