-- Items that are found by a test: what is found after one of them is written. Nothing here concerns shelves.
use Rattle.std.proofs.Common.{◌≡◌, ◌≤◌, ◌∙◌, ℕ, zero, suc, List, [], ◌∷◌, Option, Some, None, Bool, true, false, cond, ◌||◌, IsTrue, rules, length, get_or, set, position, refl, sym, ap, arith, map}
use Rattle.std.proofs.lemmas.List.Folds.{find_at, find-set}
use Rattle.std.proofs.lemmas.List.Quantifiers.{position-Some}
use Rattle.std.proofs.lemmas.Option.{slice_get-get_or, slice_get_past}
use Rattle.std.specs.List.{find, position_or_len, slice_get}
use Rattle.std.specs.Option.{option_map}

-- A place is the first one that passes.
place_is : {X : Type 0} (p : X → Bool) (xs : List X) (i : ℕ) → position p xs ≡ Some i → i ≡ position_or_len p xs
place_is p xs i place = grind arith

-- What is found is the item at the place.
pub found : {X : Type 0} (p : X → Bool) (xs : List X) (i : ℕ) (d : X) → position p xs ≡ Some i → d ≡ get_or xs i d → find p xs ≡ Some d
found p xs i d place here =
    let at = position-Some p xs i d place in
    find_at p xs ∙ ap (λ k. slice_get xs k) (sym (place_is p xs i place)) ∙ slice_get-get_or xs i d at.0 ∙ ap (λ x. Some x) (sym here)

-- If no place passes, nothing is found.
pub found_nowhere : {X : Type 0} (p : X → Bool) (xs : List X) → position p xs ≡ None → find p xs ≡ None
found_nowhere p xs none =
    let past : length xs ≤ position_or_len p xs = grind arith in
    find_at p xs ∙ slice_get_past xs (position_or_len p xs) past

-- An item that is written at the place, and passes too, is found.
pub found_written : {X : Type 0} (p : X → Bool) (xs : List X) (i : ℕ) (d g : X) → position p xs ≡ Some i → p g ≡ true → find p (set xs i g) ≡ Some g
found_written p xs i d g place same =
    let at = position-Some p xs i d place in find-set p xs i g (place_is p xs i place) at.0 same

-- A write that leaves an item's test and value unchanged leaves the value of what is found unchanged.
pub value_kept : {X V : Type 0} (p : X → Bool) (value : Option X → V) (xs : List X) (i : ℕ) (d g : X)
    → p g ≡ p (get_or xs i d) → value (Some g) ≡ value (Some (get_or xs i d)) → value (find p (set xs i g)) ≡ value (find p xs)
value_kept p value [] i d g same kept = refl
value_kept p value (x ∷ xs) zero d g same kept = rw same (by (p x))
  where
    by : (b : Bool) → value (cond b (Some g) (find p xs)) ≡ value (cond b (Some x) (find p xs))
    by true = kept
    by false = refl
value_kept p value (x ∷ xs) (suc i) d g same kept = by (p x) (value_kept p value xs i d g same kept)
  where
    by : (b : Bool) → value (find p (set xs i g)) ≡ value (find p xs) → value (cond b (Some x) (find p (set xs i g))) ≡ value (cond b (Some x) (find p xs))
    by true more = refl
    by false more = more

-- What is found among the images is the image of what is found.
pub found_image : {X Y : Type 0} (f : X → Y) (p : Y → Bool) (xs : List X) → find p (map f xs) ≡ option_map f (find (λ x. p (f x)) xs)
found_image f p [] = refl
found_image f p (x ∷ xs) = by (p (f x)) (found_image f p xs)
  where
    by : (b : Bool) → find p (map f xs) ≡ option_map f (find (λ x. p (f x)) xs) → cond b (Some (f x)) (find p (map f xs)) ≡ option_map f (cond b (Some x) (find (λ x. p (f x)) xs))
    by true more = refl
    by false more = more

-- A write that leaves a function of an item unchanged leaves it unchanged for all items.
pub asked_kept : {X Y : Type 0} (ask : X → Y) (xs : List X) (i : ℕ) (d g : X) → ask g ≡ ask (get_or xs i d) → map ask (set xs i g) ≡ map ask xs
asked_kept ask [] i d g kept = refl
asked_kept ask (x ∷ xs) zero d g kept = ap (λ y. y ∷ map ask xs) kept
asked_kept ask (x ∷ xs) (suc i) d g kept = ap (λ ys. ask x ∷ ys) (asked_kept ask xs i d g kept)

-- A call that fails by the second of two tests, or by neither.
pub fails_then : (a b : Bool) → b ≡ true → (true ≡ true → IsTrue (a || b)) × (IsTrue (a || b) → true ≡ true)
fails_then a b second = (λ _. search rules, λ _. refl)

pub fails_never : (a b : Bool) → a ≡ false → b ≡ false → (false ≡ true → IsTrue (a || b)) × (IsTrue (a || b) → false ≡ true)
fails_never a b first second = rw (first, second) (λ e. e, λ e. e)
