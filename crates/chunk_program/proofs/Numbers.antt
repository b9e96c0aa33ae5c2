-- The numbers of a program before it is laid out: the least common multiple by steps, its bound, and the length of chunks.
use Rattle.std.proofs.Common.{◌≡◌, ◌≤◌, ◌<◌, ◌⊎◌, inl, inr, ◌+◌, ◌-◌, ◌*◌, ◌/◌, ◌%◌, ◌^◌, ◌++◌, ℕ, zero, suc, List, [], ◌∷◌, length, get_or, take, fold, lit<, min, refl, sym, ap, ◌∙◌, arith}
use Rattle.std.specs.Int.{div_ceil}
use Rattle.std.proofs.lemmas.Bool.{cases_lt}
use Rattle.std.proofs.lemmas.List.{take_more}
use Rattle.std.proofs.lemmas.Nat.{div-mul-add, mod_below, row_fits}
use Rattle.std.proofs.lemmas.Grind.{pow_more}
use Rattle.std.proofs.Math.Nat.{div-add-mod', mul-le-mul_right, mul-mod_left, mul-mod_right, pow-le-pow_right}
use Rattle.air_model.specs.Disks.{Disk}
use Rattle.air_model.specs.Programs.{chunk_len, least_common_multiple, num_chunks, num_minors}
use Rattle.air_model.proofs.CommonMultiples.{least_common_first, least_common_least, least_common_pos, least_common_second}

-- ---- the least common multiple, found by steps
positive : (a b : ℕ) → 0 < a * b → 0 < a
positive zero b h = absurd (omega arith)
positive (suc a) b h = omega arith

above_zero : (a b : ℕ) → 0 < a → 0 < b → 0 < a * b
above_zero a b h k = grind arith

-- The first multiple that f divides is the least common one.
pub common_is : (m f k : ℕ) → 0 < m → 0 < f → 1 ≤ k → (k * m) % f ≡ 0 → ((j : ℕ) → 1 ≤ j → j < k → (j * m) % f ≡ 0 → ⊥) → k * m ≡ least_common_multiple m f
common_is m f k some more from good before =
    let l = least_common_multiple m f in
    let whole : l / m * m ≡ l = let s = div-add-mod' l m in let none = least_common_first m f more in omega arith in
    let place : 0 < l / m = positive (l / m) m (let pos = least_common_pos m f some more in omega arith) in
    let least = least_common_least m f (k * m) some more (above_zero k m from some) (mul-mod_left k m) good in
    by (l / m) whole place least (cases_lt (l / m) k) (cases_lt k (l / m))
  where
    by : (p : ℕ) → p * m ≡ least_common_multiple m f → 0 < p → least_common_multiple m f ≤ k * m → ((p < k) ⊎ (k ≤ p)) → ((k < p) ⊎ (p ≤ k)) → k * m ≡ least_common_multiple m f
    by p whole place least (inl less) o = absurd (before p (omega arith) less (ap (λ n. n % f) whole ∙ least_common_second m f more))
    by p whole place least (inr over) (inl more) = absurd (let grows = mul-le-mul_right m more in let next : suc k * m ≡ k * m + m = omega arith in omega arith)
    by p whole place least (inr over) (inr under) = let same : k ≡ p = omega arith in ap (λ n. n * m) same ∙ whole

-- The steps go on below f.
pub still_below : (m f k : ℕ) → k ≤ f → ((k * m) % f ≡ 0 → ⊥) → k < f
still_below m f k within bad = by (cases_lt k f)
  where
    by : ((k < f) ⊎ (f ≤ k)) → k < f
    by (inl less) = less
    by (inr over) = let same : k ≡ f = omega arith in absurd (bad (ap (λ j. (j * m) % f) same ∙ mul-mod_right f m))

pub earlier_more : (m f k : ℕ) → ((j : ℕ) → 1 ≤ j → j < k → (j * m) % f ≡ 0 → ⊥) → ((k * m) % f ≡ 0 → ⊥) → (j : ℕ) → 1 ≤ j → j < k + 1 → (j * m) % f ≡ 0 → ⊥
earlier_more m f k before bad j from below e = by (cases_lt j k)
  where
    by : ((j < k) ⊎ (k ≤ j)) → ⊥
    by (inl less) = before j from less e
    by (inr over) = let same : j ≡ k = omega arith in bad (ap (λ i. (i * m) % f) (sym same) ∙ e)

pub multiple_fits : (m f k : ℕ) → k < f → f * m < 2 ^ 64 → k * m + m < 2 ^ 64
multiple_fits m f k less fits = by (row_fits k m f m less (omega arith))
  where
    by : k * m + m ≤ f * m → k * m + m < 2 ^ 64
    by le = omega arith

-- ---- the number of minor cycles, one disk on
pub minors_none : 1 ≡ num_minors []
unfolding num_minors
minors_none = refl

fold_more : {X Y : Type 0} (f : Y → X → Y) (y : Y) (xs : List X) (x : X) → fold f y (xs ++ x ∷ []) ≡ f (fold f y xs) x
fold_more f y [] x = refl
fold_more f y (z ∷ xs) x = fold_more f (f y z) xs x

pub minors_more : (disks : List Disk) (k : ℕ) (d : Disk) (m : ℕ) → k < length disks → d ≡ get_or disks k d → m ≡ num_minors (take k disks) → least_common_multiple m d.freq ≡ num_minors (take (k + 1) disks)
unfolding num_minors
minors_more disks k d m below is told =
    ap (λ n. least_common_multiple n d.freq) told ∙ sym (fold_more (λ m (d : Disk). least_common_multiple m d.freq) 1 (take k disks) d)
    ∙ ap (fold (λ m (d : Disk). least_common_multiple m d.freq) 1) (ap (λ x. take k disks ++ x ∷ []) is ∙ sym (take_more disks k d below))

-- A common multiple is at most the product.
pub common_bound : (m f n : ℕ) → 0 < m → 0 < f → f ≤ 64 → m ≤ 64 ^ n → least_common_multiple m f ≤ 64 ^ (n + 1)
common_bound m f n some more few under =
    let least = least_common_least m f (f * m) some more (above_zero f m more some) (mul-mod_left f m) (mul-mod_right f m) in
    let grows : f * m ≤ 64 * m = mul-le-mul_right m few in
    let next = pow_more 64 n in omega arith

-- The step to the next multiple stays far below 64 bits.
pub common_fits : (m f n : ℕ) → f ≤ 64 → m ≤ 64 ^ n → n < 8 → f * m < 2 ^ 64
common_fits m f n few under eight =
    let grows : f * m ≤ 64 * m = mul-le-mul_right m few in
    let top : 64 ^ n ≤ 64 ^ 7 = pow-le-pow_right {n = 64} (lit< tt) {i = n} {j = 7} (omega arith) in omega arith

pub minors_bound : (m n : ℕ) → m ≤ 64 ^ n → n ≤ 8 → m ≤ 2 ^ 48
minors_bound m n under eight = let top : 64 ^ n ≤ 64 ^ 8 = pow-le-pow_right {n = 64} (lit< tt) {i = n} {j = 8} eight in omega arith

-- ---- the length of a chunk
ceiling : (a b : ℕ) → 0 < b → div_ceil a b ≡ (a + b - 1) / b
ceiling a b some = by (a % b) refl (div-add-mod' a b) (mod_below a b some)
  where
    by : (r : ℕ) → a % b ≡ r → a / b * b + a % b ≡ a → a % b < b → div_ceil a b ≡ (a + b - 1) / b
    by zero e split under =
        let sum : a + b - 1 ≡ a / b * b + (b - 1) = omega arith in
        let low : b - 1 < b = omega arith in
        let none : a / b + min 1 (a % b) ≡ a / b = omega arith in
        none ∙ sym (ap (λ n. n / b) sum ∙ div-mul-add (a / b) b (b - 1) low)
    by (suc r) e split under =
        let next : (a / b + 1) * b ≡ a / b * b + b = omega arith in
        let sum : a + b - 1 ≡ (a / b + 1) * b + r = omega arith in
        let low : r < b = omega arith in
        let one : a / b + min 1 (a % b) ≡ a / b + 1 = omega arith in
        one ∙ sym (ap (λ n. n / b) sum ∙ div-mul-add (a / b + 1) b r low)

pub chunk_len_is : (minors n : ℕ) (d : Disk) → 0 < num_chunks minors d → n ≡ div_ceil (length d.items) (num_chunks minors d) → n ≡ chunk_len minors d
unfolding chunk_len
chunk_len_is minors n d some is = is ∙ ceiling (length d.items) (num_chunks minors d) some
