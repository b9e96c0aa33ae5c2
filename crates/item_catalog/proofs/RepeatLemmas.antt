-- Lists that have a number twice, one number at a time.
use Rattle.std.proofs.Common.{◌≡◌, ◌++◌, ◌∷◌, [], ℕ, List, Bool, true, false, refl, sym, ap, ◌∙◌, arith, inl, inr, ◌⊎◌}
use Rattle.std.specs.Prelude.{◌||◌, ◌==◌}
use Rattle.std.proofs.lemmas.Bool.{cases_eq}
use Rattle.std.proofs.lemmas.List.Folds.{list_any-append}
use Rattle.air_history.specs.UpdateRules.{has_repeat}
use Rattle.item_catalog.specs.KeptLists.{among}

pub or_false : (b : Bool) → (b || false) ≡ b
or_false true = refl
or_false false = refl

pub eq_sym : (a b : ℕ) → (a == b) ≡ (b == a)
eq_sym a b = by (cases_eq a b)
  where
    by : (a ≡ b) ⊎ (a ≡ b → ⊥) → (a == b) ≡ (b == a)
    by (inl e) = rw e refl
    by (inr differs) = let l : (a == b) ≡ false = grind arith in let r : (b == a) ≡ false = grind arith in l ∙ sym r

pub among_push : (xs : List ℕ) (x k : ℕ) → among (xs ++ x ∷ []) k ≡ (among xs k || (x == k))
among_push xs x k = list_any-append (λ y. y == k) xs (x ∷ []) ∙ ap (λ b. among xs k || b) (or_false (x == k))

pub repeat_push : (xs : List ℕ) (x : ℕ) → has_repeat (xs ++ x ∷ []) ≡ (has_repeat xs || among xs x)
unfolding has_repeat
repeat_push [] x = refl
repeat_push (y ∷ ys) x = rw (among_push ys x y, repeat_push ys x, eq_sym x y) (by (among ys y) (y == x) (has_repeat ys) (among ys x))
  where
    by : (a b c d : Bool) → ((a || b) || (c || d)) ≡ ((a || c) || (b || d))
    by true b c d = refl
    by false true true d = refl
    by false true false d = refl
    by false false true d = refl
    by false false false d = refl
