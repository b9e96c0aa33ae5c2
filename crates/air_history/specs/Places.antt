-- Places of a list, counted from 0, and tests on places. Every scan of a history is defined by these.
use Rattle.std.specs.Prelude.{List, [], ◌∷◌, ℕ, zero, suc, max, Bool, true, false, cond, ◌==◌, Option, Some, None}

-- The last place below n that passes the test.
unfoldable pub last_place : ℕ → (ℕ → Bool) → Option ℕ
last_place zero test = None
last_place (suc n) test = cond (test n) (Some n) (last_place n test)

-- The greatest number f p over the places p below n that pass the test; 0 if none passes.
unfoldable pub greatest : ℕ → (ℕ → Bool) → (ℕ → ℕ) → ℕ
greatest zero test f = 0
greatest (suc n) test f = cond (test n) (max (f n) (greatest n test f)) (greatest n test f)

-- The greatest f x over the elements; 0 if there is no element.
unfoldable pub greatest_of : {X : Type 0} → (X → ℕ) → List X → ℕ
greatest_of f [] = 0
greatest_of f (x ∷ xs) = max (f x) (greatest_of f xs)

-- Whether there is a place and it passes the test.
abbrev pub place_and : Option ℕ → (ℕ → Bool) → Bool
place_and None test = false
place_and (Some p) test = test p

-- Whether two places are the same, or both are None.
abbrev pub same_place : Option ℕ → Option ℕ → Bool
same_place None None = true
same_place None (Some q) = false
same_place (Some p) None = false
same_place (Some p) (Some q) = p == q
