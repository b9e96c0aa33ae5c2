-- The number of minor cycles: the least common multiple of the frequencies, found by steps, and its bound.
use Rattle.std.proofs.Common.{◌≡◌, ◌≤◌, ◌<◌, ◌+◌, ◌-◌, ◌*◌, ◌%◌, ◌^◌, ◌==◌, ℕ, suc, Bool, true, false, cond, Option, Some, List, length, find, get_or, map, take, sym, subst, ap, ◌∙◌, arith, lit<}
use Rattle.std.specs.Prelude.{unwrap_or}
use Rattle.std.specs.List.{fold, range_with_len}
use Rattle.std.proofs.lemmas.Bool.Decides.{nat_tests}
use Rattle.std.proofs.lemmas.Grind.{pow_more}
use Rattle.std.proofs.lemmas.List.Sums.{fold_more}
use Rattle.std.proofs.Math.Nat.{mul-le-mul_right, mul-mod_left, mul-mod_right, pow-le-pow_right}
use Rattle.air_model.specs.Disks.{DiskSpec}
use Rattle.air_model.specs.Programs.{least_common_multiple}
use Rattle.air_model.proofs.CommonMultiples.{least_common_least}

-- ---- the first multiple that a frequency divides
-- The first of m, 2 m, .. f m that f divides is the first of those from t m on.
abbrev pub IsSoFar : ℕ → ℕ → ℕ → Type 0
IsSoFar m f t = find (λ n. n % f == 0) (map (λ k. k * m) (range_with_len 1 f)) ≡ find (λ n. n % f == 0) (map (λ k. k * m) (range_with_len t (f + 1 - t)))

pub begins : (m f : ℕ) → IsSoFar m f 1
begins m f = let e : f + 1 - 1 ≡ f = omega arith in ap (λ n. find (λ n. n % f == 0) (map (λ k. k * m) (range_with_len 1 n))) (sym e)

test_is : (b : Bool) (n f : ℕ) → (n % f == 0) ≡ b → (x : Option ℕ) → cond (n % f == 0) (Some n) x ≡ cond b (Some n) x
test_is b n f e x = ap (λ c. cond c (Some n) x) e

next_is : (m f t : ℕ) → t ≤ f → find (λ n. n % f == 0) (map (λ k. k * m) (range_with_len t (f + 1 - t)))
    ≡ cond ((t * m) % f == 0) (Some (t * m)) (find (λ n. n % f == 0) (map (λ k. k * m) (range_with_len (t + 1) (f + 1 - (t + 1)))))
next_is m f t within = let e : f + 1 - t ≡ suc (f + 1 - (t + 1)) = omega arith in ap (λ n. find (λ n. n % f == 0) (map (λ k. k * m) (range_with_len t n))) e

pub goes_on : (m f t : ℕ) → t ≤ f → ((t * m) % f ≡ 0 → ⊥) → IsSoFar m f t → IsSoFar m f (t + 1)
goes_on m f t within bad told =
    let no : ((t * m) % f == 0) ≡ false = grind (arith, nat_tests) in
    told ∙ next_is m f t within ∙ test_is false (t * m) f no _

pub ends : (m f t : ℕ) → t ≤ f → (t * m) % f ≡ 0 → IsSoFar m f t → t * m ≡ least_common_multiple m f
unfolding least_common_multiple
ends m f t within good told =
    let yes : ((t * m) % f == 0) ≡ true = grind (arith, nat_tests) in
    sym (ap (λ o. unwrap_or o (f * m)) (told ∙ next_is m f t within ∙ test_is true (t * m) f yes _))

pub ends_last : (m f t : ℕ) → t ≤ f → f ≤ t → IsSoFar m f t → f * m ≡ least_common_multiple m f
ends_last m f t within over told = let same : t ≡ f = omega arith in ends m f f (omega arith) (mul-mod_right f m) (subst (IsSoFar m f) same told)

-- ---- the least common multiple of all frequencies, one disk on
abbrev pub common_of : List DiskSpec → ℕ
common_of disks = fold (λ m d. least_common_multiple m d.freq) 1 disks

pub common_more : (disks : List DiskSpec) (k freq : ℕ) (d : DiskSpec) (m : ℕ) → k < length disks → freq ≡ (get_or disks k d).freq → m ≡ common_of (take k disks)
    → least_common_multiple m freq ≡ common_of (take (k + 1) disks)
common_more disks k freq d m below is told =
    ap (least_common_multiple m) is ∙ ap (λ n. least_common_multiple n (get_or disks k d).freq) told
    ∙ sym (fold_more (λ m (d : DiskSpec). least_common_multiple m d.freq) 1 disks k d below)

above_zero : (a b : ℕ) → 0 < a → 0 < b → 0 < a * b
above_zero a b h k = grind arith

-- A common multiple is at most the product.
pub common_bound : (m f n : ℕ) → 0 < m → 0 < f → f ≤ 64 → m ≤ 64 ^ n → least_common_multiple m f ≤ 64 ^ (n + 1)
common_bound m f n some more few under =
    let least = least_common_least m f (f * m) some more (above_zero f m more some) (mul-mod_left f m) (mul-mod_right f m) in
    let grows : f * m ≤ 64 * m = mul-le-mul_right m few in
    let next = pow_more 64 n in omega arith

-- The product is far below 2 ^ 64.
pub product_fits : (m f n : ℕ) → f ≤ 64 → m ≤ 64 ^ n → n < 8 → f * m < 2 ^ 64
product_fits m f n few under eight =
    let grows : f * m ≤ 64 * m = mul-le-mul_right m few in
    let top : 64 ^ n ≤ 64 ^ 7 = pow-le-pow_right {n = 64} (lit< tt) {i = n} {j = 7} (omega arith) in omega arith

pub minors_bound : (m n : ℕ) → m ≤ 64 ^ n → n ≤ 8 → m ≤ 2 ^ 48
minors_bound m n under eight = let top : 64 ^ n ≤ 64 ^ 8 = pow-le-pow_right {n = 64} (lit< tt) {i = n} {j = 8} eight in omega arith
