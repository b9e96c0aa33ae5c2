-- An element of a list by its place: from `slice_get` to the library's `Contains`, `All` and `AllPairs`, and back. A `Has` is
-- decided by cases of the list, which the inductions on orders and disks need.
use Rattle.std.proofs.Common.{◌≡◌, ◌<◌, ◌+◌, ◌++◌, ℕ, zero, suc, zero-add, Some, List, [], ◌∷◌, length, get_or, slice_get, refl, subst, ap, ◌∙◌, arith}
use Rattle.std.specs.List.{All, AllPairs, Contains}
use Rattle.std.proofs.lemmas.Option.{get_or_from_slice_get, slice_get-get_or, slice_get_within}

-- The list has the element at some place.
abbrev pub Has : {X : Type 0} → List X → X → Type 0
Has xs x = (k : ℕ) × (slice_get xs k ≡ Some x)

pub Has-first : {X : Type 0} (y : X) (ys : List X) → Has (y ∷ ys) y
Has-first y ys = (0, refl)

pub Has-later : {X : Type 0} (y x : X) (ys : List X) → Has ys x → Has (y ∷ ys) x
Has-later y x ys h = (suc h.0, h.1)

pub contains_has : {X : Type 0} (xs : List X) (x : X) → Contains xs x → Has xs x
contains_has xs x c = (c.0, slice_get-get_or xs c.0 x c.1 ∙ ap Some c.2)

pub has_contains : {X : Type 0} (xs : List X) (x : X) → Has xs x → Contains xs x
has_contains xs x h = (h.0, slice_get_within xs h.0 x h.1, get_or_from_slice_get xs h.0 x x h.1)

-- What holds of all elements, or of all pairs of them, by their places.
pub all_at : {X : Type 0} (P : X → Type 0) (xs : List X) (k : ℕ) (x : X) → All P xs → slice_get xs k ≡ Some x → P x
all_at P xs k x all at = subst P (get_or_from_slice_get xs k x x at) (all k x (slice_get_within xs k x at))

pub at_all : {X : Type 0} (P : X → Type 0) (xs : List X) → ((k : ℕ) (x : X) → slice_get xs k ≡ Some x → P x) → All P xs
at_all P xs each k d below = each k (get_or xs k d) (slice_get-get_or xs k d below)

pub pairs_at : {X : Type 0} (R : X → X → Type 0) (xs : List X) (j k : ℕ) (x y : X) → AllPairs R xs → j < k
    → slice_get xs j ≡ Some x → slice_get xs k ≡ Some y → R x y
pairs_at R xs j k x y all less at to =
    subst (R x) (get_or_from_slice_get xs k y x to)
    (subst (λ z. R z (get_or xs k x)) (get_or_from_slice_get xs j x x at) (all j k x less (slice_get_within xs k y to)))

pub at_pairs : {X : Type 0} (R : X → X → Type 0) (xs : List X)
    → ((j k : ℕ) (x y : X) → j < k → slice_get xs j ≡ Some x → slice_get xs k ≡ Some y → R x y) → AllPairs R xs
at_pairs R xs each j k d less below =
    each j k (get_or xs j d) (get_or xs k d) less (slice_get-get_or xs j d (omega arith)) (slice_get-get_or xs k d below)

-- An element of two lists in a row.
pub get_left : {X : Type 0} (xs ys : List X) (k : ℕ) (x : X) → slice_get xs k ≡ Some x → slice_get (xs ++ ys) k ≡ Some x
get_left [] ys k x e = cc e
get_left (y ∷ xs) ys zero x e = e
get_left (y ∷ xs) ys (suc k) x e = get_left xs ys k x e

pub get_right : {X : Type 0} (xs ys : List X) (k : ℕ) → slice_get (xs ++ ys) (length xs + k) ≡ slice_get ys k
get_right [] ys k = rw (zero-add k) refl
get_right (x ∷ xs) ys k = let e : length (x ∷ xs) + k ≡ suc (length xs + k) = omega arith in rw e (get_right xs ys k)

-- No number is at two places.
abbrev pub Distinct : List ℕ → Type 0
Distinct xs = (j k i : ℕ) → slice_get xs j ≡ Some i → slice_get xs k ≡ Some i → j ≡ k

pub Distinct-left : (xs ys : List ℕ) → Distinct (xs ++ ys) → Distinct xs
Distinct-left xs ys d j k i a b = d j k i (get_left xs ys j i a) (get_left xs ys k i b)

pub Distinct-right : (xs ys : List ℕ) → Distinct (xs ++ ys) → Distinct ys
Distinct-right xs ys d j k i a b = let e = d (length xs + j) (length xs + k) i (get_right xs ys j ∙ a) (get_right xs ys k ∙ b) in omega arith

pub Distinct-apart : (xs ys : List ℕ) (j k i : ℕ) → Distinct (xs ++ ys) → slice_get xs j ≡ Some i → slice_get ys k ≡ Some i → ⊥
Distinct-apart xs ys j k i d a b =
    let e = d j (length xs + k) i (get_left xs ys j i a) (get_right xs ys k ∙ b) in
    let under = slice_get_within xs j i a in omega arith
