-- Sums over a list of views, after a change of one of them.
use Rattle.std.proofs.Common.{◌≡◌, ℕ, zero, suc, ◌+◌, ◌<◌, ◌≤◌, ◌≢◌, List, [], ◌∷◌, ◌++◌, length, set, sym, refl, ap, arith}
use mathlib.Core.Option.{some, some-injective, some-ne-none}
use lib.ListN.{get_elem?}
use Rattle.turnstile.specs.Private.TurnstileRule.{total}

module _ {A : Type 0} (f : A → ℕ) where
  pub total_set : (xs : List A) (i : ℕ) (x y : A) → get_elem? xs i ≡ some x → total f (set xs i y) + f x ≡ total f xs + f y
  total_set [] i x y e = absurd (some-ne-none x (sym e))
  total_set (z ∷ zs) zero x y e = let h : f z ≡ f x = ap f (some-injective z x e) in omega arith
  total_set (z ∷ zs) (suc i) x y e = let h = total_set zs i x y e in omega arith

  pub total_snoc : (xs : List A) (x : A) → total f (xs ++ x ∷ []) ≡ total f xs + f x
  total_snoc [] x = omega arith
  total_snoc (z ∷ zs) x = let h = total_snoc zs x in omega arith

  pub total_at : (xs : List A) (i : ℕ) (x : A) → get_elem? xs i ≡ some x → f x ≤ total f xs
  total_at [] i x e = absurd (some-ne-none x (sym e))
  total_at (z ∷ zs) zero x e = let h : f z ≡ f x = ap f (some-injective z x e) in omega arith
  total_at (z ∷ zs) (suc i) x e = let h = total_at zs i x e in omega arith

  pub total_two : (xs : List A) (i j : ℕ) (x y : A) → i ≢ j → get_elem? xs i ≡ some x → get_elem? xs j ≡ some y → f x + f y ≤ total f xs
  total_two [] i j x y n a b = absurd (some-ne-none x (sym a))
  total_two (z ∷ zs) zero zero x y n a b = absurd (n refl)
  total_two (z ∷ zs) zero (suc j) x y n a b = let h : f z ≡ f x = ap f (some-injective z x a) in let k = total_at zs j y b in omega arith
  total_two (z ∷ zs) (suc i) zero x y n a b = let h : f z ≡ f y = ap f (some-injective z y b) in let k = total_at zs i x a in omega arith
  total_two (z ∷ zs) (suc i) (suc j) x y n a b = let k = total_two zs i j x y (λ e. n (ap suc e)) a b in omega arith

pub set_at : {A : Type 0} (l : List A) (i : ℕ) (a b : A) → get_elem? l i ≡ some a → get_elem? (set l i b) i ≡ some b
set_at [] i a b e = absurd (some-ne-none a (sym e))
set_at (x ∷ xs) zero a b e = refl
set_at (x ∷ xs) (suc i) a b e = set_at xs i a b e

pub none_in : {A : Type 0} (l : List A) (i : ℕ) (a : A) → get_elem? l i ≡ some a → 0 < length l
none_in [] i a e = absurd (some-ne-none a (sym e))
none_in (x ∷ xs) i a e = omega arith

-- If f of each element is at most g of it, the same holds of the sums.
pub total_le : {A : Type 0} (f g : A → ℕ) (xs : List A) → ((i : ℕ) (x : A) → get_elem? xs i ≡ some x → f x ≤ g x) → total f xs ≤ total g xs
total_le f g [] h = omega arith
total_le f g (x ∷ xs) h = let a = h zero x refl in let b = total_le f g xs (λ i y e. h (suc i) y e) in omega arith
