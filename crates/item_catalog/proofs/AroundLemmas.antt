-- Items around the catalog: those of an update are one after another, those of a query seven apart. No item comes twice, since
-- no distance between two of them is the number of items, or twice that number.
use Rattle.std.proofs.Common.{◌≡◌, ◌<◌, ◌≤◌, ◌+◌, ◌*◌, ◌/◌, ◌%◌, ℕ, zero, suc, false, length, map, refl, sym, ap, ◌∙◌, arith}
use Rattle.std.specs.Prelude.{◌==◌, ◌||◌, All}
use Rattle.std.specs.List.{range_with_len}
use Rattle.std.proofs.Math.Nat.{div-lt_iff_lt-mul, mod-lt}
use Rattle.std.proofs.lemmas.Bool.{ne_eqb}
use Rattle.std.proofs.lemmas.List.Elements.{All-map}
use Rattle.std.proofs.lemmas.List.Folds.{list_any_none}
use Rattle.std.proofs.lemmas.List.FromFn.{get_or-range_with_len, length-map-range_with_len, length-range_with_len}
use Rattle.air_history.specs.UpdateRules.{has_repeat}
use Rattle.air_model.specs.Drills.{around}

-- A property of each number of a range.
pub range_all : (P : ℕ → Type 0) (a n : ℕ) → ((i : ℕ) → a ≤ i → i < a + n → P i) → All P (range_with_len a n)
range_all P a n each k d below =
    let short : k < n = omega (arith, length-range_with_len a n) in
    rw (get_or-range_with_len a n k d short) (each (a + k) (omega arith) (omega arith))

-- A list of values that differ has none twice.
pub no_repeat : (f : ℕ → ℕ) (a n : ℕ) → ((i j : ℕ) → a ≤ i → i < j → j < a + n → f i ≡ f j → ⊥) → has_repeat (map f (range_with_len a n)) ≡ false
unfolding has_repeat
no_repeat f a zero differ = refl
no_repeat f a (suc n) differ =
    let rest = map f (range_with_len (a + 1) n) in
    let others : All (λ y. (y == f a) ≡ false) rest = All-map (λ y. (y == f a) ≡ false) f (range_with_len (a + 1) n)
    (range_all (λ j. (f j == f a) ≡ false) (a + 1) n (λ j low high. ne_eqb (f j) (f a) (λ e. differ a j (omega arith) (omega arith) (omega arith) (sym e)))) in
    ap (λ b. b || has_repeat rest) (list_any_none (λ y. y == f a) rest others)
    ∙ no_repeat f (a + 1) n (λ i j low lt high. differ i j (omega arith) lt (omega arith))

-- A number below three times n, from its remainder and its quotient.
whole : (n z : ℕ) → 0 < n → z < 3 * n → (q : ℕ) → z / n ≡ q → (q < 3) × (z ≡ n * q + z % n)
whole n z some few q e =
    let below = (div-lt_iff_lt-mul {k = n} {x = z} {y = 3} some).1 (omega arith) in
    (omega arith, let f : n * (z / n) ≡ n * q = ap (λ q. n * q) e in omega arith)

-- Different numbers of steps from one place lead to different items.
pub apart : (n first x y : ℕ) → first < n → x < y → y < 2 * n → (x + n ≡ y → ⊥) → (first + x) % n ≡ (first + y) % n → ⊥
apart n first x y within lt few other e = by ((first + x) / n) ((first + y) / n) (whole n (first + x) (omega arith) (omega arith) _ refl) (whole n (first + y) (omega arith) (omega arith) _ refl)
  where
    by : (p q : ℕ) → (p < 3) × (first + x ≡ n * p + (first + x) % n) → (q < 3) × (first + y ≡ n * q + (first + y) % n) → ⊥
    by zero zero a b = omega arith
    by zero (suc zero) a b = other (omega arith)
    by zero (suc (suc zero)) a b = omega arith
    by (suc zero) zero a b = omega arith
    by (suc zero) (suc zero) a b = omega arith
    by (suc zero) (suc (suc zero)) a b = other (omega arith)
    by (suc (suc zero)) zero a b = omega arith
    by (suc (suc zero)) (suc zero) a b = omega arith
    by (suc (suc zero)) (suc (suc zero)) a b = omega arith
    by (suc (suc (suc p))) q a b = omega arith
    by p (suc (suc (suc q))) a b = omega arith

pub length-around : (n first gap count : ℕ) → length (around n first gap count) ≡ count
length-around n first gap count = length-map-range_with_len (λ t. (first + gap * t) % n) 0 count

pub around_within : (n first gap count : ℕ) → 0 < n → All (λ i. i < n) (around n first gap count)
around_within n first gap count some =
    All-map (λ i. i < n) (λ t. (first + gap * t) % n) (range_with_len 0 count) (range_all (λ t. (first + gap * t) % n < n) 0 count (λ t low high. mod-lt (first + gap * t) some))

-- Up to four items that are one after another.
pub no_neighbour_twice : (n first count : ℕ) → first < n → 4 < n → count ≤ 4 → has_repeat (map (λ t. (first + t) % n) (range_with_len 0 count)) ≡ false
no_neighbour_twice n first count within some few =
    no_repeat (λ t. (first + t) % n) 0 count (λ i j low lt high. apart n first i j within lt (omega arith) (λ e. omega arith))

pub no_neighbour_around : (n first count : ℕ) → first < n → 4 < n → count ≤ 4 → has_repeat (around n first 1 count) ≡ false
no_neighbour_around n first count within some few =
    no_repeat (λ t. (first + 1 * t) % n) 0 count (λ i j low lt high. apart n first (1 * i) (1 * j) within (omega arith) (omega arith) (λ e. omega arith))

-- Up to four items that are seven apart, in a catalog of an even number of items, at least 18.
pub no_seventh_twice : (size first count : ℕ) → first < 16 + 2 * size → 1 ≤ size → count ≤ 4 → has_repeat (around (16 + 2 * size) first 7 count) ≡ false
no_seventh_twice size first count within some few =
    no_repeat (λ t. (first + 7 * t) % (16 + 2 * size)) 0 count
    (λ i j low lt high. apart (16 + 2 * size) first (7 * i) (7 * j) within (omega arith) (omega arith) (λ e. omega arith))
