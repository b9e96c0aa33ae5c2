-- The least common multiple of the frequencies: each divides it, and it divides each common multiple.
-- `First` is what `find` gives among the values at consecutive numbers.
use Rattle.std.proofs.Common.{◌≡◌, ◌≤◌, ◌<◌, ◌⊎◌, inl, inr, ◌+◌, ◌*◌, ◌/◌, ◌%◌, ℕ, zero, suc, Bool, true, false, cond, ◌==◌, Option, Some, List, [], ◌∷◌, map, slice_get, find, refl, sym, subst, ap, ◌∙◌, arith}
use Rattle.std.specs.Prelude.{unwrap_or}
use Rattle.std.specs.List.{fold, range_with_len}
use Rattle.std.proofs.lemmas.Bool.{cases_lt, false≢true}
use Rattle.std.proofs.lemmas.Option.{same_Some}
use Rattle.std.proofs.lemmas.Nat.Gcd.{dvd_of_mod-eq-zero, dvd_trans, mod-eq-zero_of_dvd}
use Rattle.std.proofs.lemmas.Nat.{mod_below}
use Rattle.std.proofs.Math.Nat.{div-add-mod', dvd-mod_iff, mod_self, mul-le-mul_right, mul-mod_left, mul-mod_right}
use Rattle.std.specs.List.{All}
use Rattle.air_model.specs.Disks.{Disk}
use Rattle.air_model.specs.Programs.{least_common_multiple, num_minors}
use Rattle.air_model.proofs.Elements.{all_at, at_all}

-- Each frequency is above zero, by the disk's place.
abbrev pub AllAired : List Disk → Type 0
AllAired disks = (n : ℕ) (d : Disk) → slice_get disks n ≡ Some d → 0 < d.freq

-- What `find` gives among the values at consecutive numbers: the first that passes.
record First (test : ℕ → Bool) (g : ℕ → ℕ) (a n : ℕ) (x : Option ℕ) : Type 0 where
  place : ℕ
  from : a ≤ place
  below : place < a + n
  is : x ≡ Some (g place)
  passes : test (g place) ≡ true
  earlier : (j : ℕ) → a ≤ j → j < place → test (g j) ≡ false

first_more : (test : ℕ → Bool) (g : ℕ → ℕ) (a n : ℕ) (x : Option ℕ) → test (g a) ≡ false → First test g (a + 1) n x → First test g a (suc n) x
first_more test g a n x bad m =
    record { place = m.place; from = (let f = m.from in omega arith); below = (let b = m.below in omega arith); is = m.is; passes = m.passes; earlier = λ j from less. before j from less (cases_lt a j) }
  where
    before : (j : ℕ) → a ≤ j → j < m.place → ((a < j) ⊎ (j ≤ a)) → test (g j) ≡ false
    before j from less (inl above) = m.earlier j (omega arith) less
    before j from less (inr at) = let same : j ≡ a = omega arith in ap (λ k. test (g k)) same ∙ bad

after : (test : ℕ → Bool) (g : ℕ → ℕ) (a k : ℕ) → a ≤ k → test (g k) ≡ true → test (g a) ≡ false → ((a < k) ⊎ (k ≤ a)) → a + 1 ≤ k
after test g a k from good bad (inl less) = omega arith
after test g a k from good bad (inr more) = let same : k ≡ a = omega arith in let e = ap (λ k. test (g k)) (sym same) ∙ good in absurd (false≢true (sym bad ∙ e))

find_first : (test : ℕ → Bool) (g : ℕ → ℕ) (a n k : ℕ) → a ≤ k → k < a + n → test (g k) ≡ true → First test g a n (find test (map g (range_with_len a n)))
find_first test g a zero k from below good = absurd (omega arith)
find_first test g a (suc n) k from below good =
    by (test (g a)) refl (λ bad. find_first test g (a + 1) n k (after test g a k from good bad (cases_lt a k)) (omega arith) good)
  where
    by : (b : Bool) → test (g a) ≡ b → (test (g a) ≡ false → First test g (a + 1) n (find test (map g (range_with_len (a + 1) n)))) → First test g a (suc n) (cond b (Some (g a)) (find test (map g (range_with_len (a + 1) n))))
    by true e more = record { place = a; from = omega arith; below = omega arith; is = refl; passes = e; earlier = λ j from less. absurd (omega arith) }
    by false e more = first_more test g a n _ e (more e)

divides : (f n : ℕ) → (n % f == 0) ≡ true → n % f ≡ 0
divides f n e = grind arith

is_divided : (f n : ℕ) → n % f ≡ 0 → (n % f == 0) ≡ true
is_divided f n e = grind arith

-- The first multiple k m that f divides.
first_multiple : (m f : ℕ) → 0 < f → First (λ n. n % f == 0) (λ k. k * m) 1 f (find (λ n. n % f == 0) (map (λ k. k * m) (range_with_len 1 f)))
first_multiple m f some = find_first (λ n. n % f == 0) (λ k. k * m) 1 f f (omega arith) (omega arith) (is_divided f (f * m) (mul-mod_right f m))

common : (m f : ℕ) (p : First (λ n. n % f == 0) (λ k. k * m) 1 f (find (λ n. n % f == 0) (map (λ k. k * m) (range_with_len 1 f)))) → least_common_multiple m f ≡ p.place * m
unfolding least_common_multiple
common m f p = ap (λ o. unwrap_or o (f * m)) p.is

above_zero : (a b : ℕ) → 0 < a → 0 < b → 0 < a * b
above_zero a b h k = grind arith

pub least_common_pos : (m f : ℕ) → 0 < m → 0 < f → 0 < least_common_multiple m f
least_common_pos m f some more =
    let p = first_multiple m f more in let e = common m f p in let from = p.from in let h : 0 < p.place = omega arith in let h2 = above_zero p.place m h some in rw e h2

pub least_common_first : (m f : ℕ) → 0 < f → least_common_multiple m f % m ≡ 0
least_common_first m f more = let p = first_multiple m f more in rw (common m f p) (mul-mod_left p.place m)

pub least_common_second : (m f : ℕ) → 0 < f → least_common_multiple m f % f ≡ 0
least_common_second m f more = let p = first_multiple m f more in rw (common m f p) (divides f (p.place * m) p.passes)

-- No common multiple above zero is less.
pub least_common_least : (m f n : ℕ) → 0 < m → 0 < f → 0 < n → n % m ≡ 0 → n % f ≡ 0 → least_common_multiple m f ≤ n
least_common_least m f n some more above a b =
    let p = first_multiple m f more in
    let k = n / m in
    let whole : k * m ≡ n = let s = div-add-mod' n m in omega arith in
    by p (cases_lt k p.place) whole
  where
    by : (p : First (λ n. n % f == 0) (λ k. k * m) 1 f (find (λ n. n % f == 0) (map (λ k. k * m) (range_with_len 1 f)))) → ((n / m < p.place) ⊎ (p.place ≤ n / m)) → n / m * m ≡ n → least_common_multiple m f ≤ n
    by p (inl less) whole =
        let from : 1 ≤ n / m = positive (n / m) whole in
        let never = p.earlier (n / m) from less in
        absurd (false≢true (sym never ∙ is_divided f (n / m * m) (ap (λ n. n % f) whole ∙ b)))
      where
        positive : (k : ℕ) → k * m ≡ n → 1 ≤ k
        positive zero e = absurd (omega arith)
        positive (suc k) e = omega arith
    by p (inr over) whole = let e = common m f p in let grows = mul-le-mul_right m over in omega arith

-- It divides each common multiple.
pub least_common_divides : (m f n : ℕ) → 0 < m → 0 < f → n % m ≡ 0 → n % f ≡ 0 → n % least_common_multiple m f ≡ 0
least_common_divides m f n some more a b =
    let l = least_common_multiple m f in
    let rest = mod_below n l (least_common_pos m f some more) in
    by (n % l) refl rest
    (mod-eq-zero_of_dvd m ((dvd-mod_iff m {m = n} (dvd_of_mod-eq-zero m (least_common_first m f more))).1 (dvd_of_mod-eq-zero m a)))
    (mod-eq-zero_of_dvd f ((dvd-mod_iff f {m = n} (dvd_of_mod-eq-zero f (least_common_second m f more))).1 (dvd_of_mod-eq-zero f b)))
  where
    by : (r : ℕ) → n % least_common_multiple m f ≡ r → r < least_common_multiple m f → r % m ≡ 0 → r % f ≡ 0 → r ≡ 0
    by zero e under x y = refl
    by (suc r) e under x y = absurd (let least = least_common_least m f (suc r) some more (omega arith) x y in omega arith)

-- A number that every frequency divides.
abbrev pub IsCommon : List Disk → ℕ → Type 0
IsCommon disks k = (n : ℕ) (d : Disk) → slice_get disks n ≡ Some d → k % d.freq ≡ 0

chain : (a b c : ℕ) → b % a ≡ 0 → c % b ≡ 0 → c % a ≡ 0
chain a b c x y = mod-eq-zero_of_dvd a (dvd_trans a (dvd_of_mod-eq-zero a x) (dvd_of_mod-eq-zero b y))

abbrev multiple_over : ℕ → List Disk → ℕ
multiple_over a disks = fold (λ m d. least_common_multiple m d.freq) a disks

multiple_over_pos : (a : ℕ) (disks : List Disk) → 0 < a → AllAired disks → 0 < multiple_over a disks
multiple_over_pos a [] some aired = some
multiple_over_pos a (d ∷ ds) some aired = multiple_over_pos (least_common_multiple a d.freq) ds (least_common_pos a d.freq some (aired 0 d refl)) (λ n. aired (suc n))

multiple_over_first : (a : ℕ) (disks : List Disk) → 0 < a → AllAired disks → multiple_over a disks % a ≡ 0
multiple_over_first a [] some aired = mod_self a
multiple_over_first a (d ∷ ds) some aired =
    let l = least_common_multiple a d.freq in
    chain a l (multiple_over l ds) (least_common_first a d.freq (aired 0 d refl)) (multiple_over_first l ds (least_common_pos a d.freq some (aired 0 d refl)) (λ n. aired (suc n)))

multiple_over_common : (a : ℕ) (disks : List Disk) → 0 < a → AllAired disks → IsCommon disks (multiple_over a disks)
multiple_over_common a [] some aired n d at = cc at
multiple_over_common a (e ∷ ds) some aired zero d at =
    let l = least_common_multiple a e.freq in let pos = aired 0 e refl in
    subst (λ (x : Disk). multiple_over l ds % x.freq ≡ 0) (same_Some e d at)
    (chain e.freq l (multiple_over l ds) (least_common_second a e.freq pos) (multiple_over_first l ds (least_common_pos a e.freq some pos) (λ n. aired (suc n))))
multiple_over_common a (e ∷ ds) some aired (suc n) d at =
    multiple_over_common (least_common_multiple a e.freq) ds (least_common_pos a e.freq some (aired 0 e refl)) (λ n. aired (suc n)) n d at

multiple_over_divides : (a : ℕ) (disks : List Disk) (k : ℕ) → 0 < a → AllAired disks → k % a ≡ 0 → IsCommon disks k → k % multiple_over a disks ≡ 0
multiple_over_divides a [] k some aired first each = first
multiple_over_divides a (d ∷ ds) k some aired first each =
    let pos = aired 0 d refl in
    multiple_over_divides (least_common_multiple a d.freq) ds k (least_common_pos a d.freq some pos) (λ n. aired (suc n))
    (least_common_divides a d.freq k some pos first (each 0 d refl)) (λ n. each (suc n))

-- The number of minor cycles is above zero and is a common multiple, and it divides each common multiple.
pub num_minors_pos : (disks : List Disk) → AllAired disks → 0 < num_minors disks
unfolding num_minors
num_minors_pos disks aired = multiple_over_pos 1 disks (omega arith) aired

pub num_minors_common : (disks : List Disk) → AllAired disks → IsCommon disks (num_minors disks)
unfolding num_minors
num_minors_common disks aired = multiple_over_common 1 disks (omega arith) aired

pub num_minors_divides : (disks : List Disk) (k : ℕ) → AllAired disks → IsCommon disks k → k % num_minors disks ≡ 0
unfolding num_minors
num_minors_divides disks k aired each = multiple_over_divides 1 disks k (omega arith) aired (omega arith) each

-- Each frequency divides the number.
abbrev pub IsCommonMultiple : List Disk → ℕ → Type 0
IsCommonMultiple disks n = All (λ (d : Disk). n % d.freq ≡ 0) disks

pub minors_are : (disks : List Disk) → All (λ (d : Disk). 0 < d.freq) disks
    → (0 < num_minors disks) × IsCommonMultiple disks (num_minors disks) × ((n : ℕ) → IsCommonMultiple disks n → n % num_minors disks ≡ 0)
minors_are disks aired =
    let each : AllAired disks = λ n d at. all_at (λ (d : Disk). 0 < d.freq) disks n d aired at in (
      num_minors_pos disks each,
      at_all (λ (d : Disk). num_minors disks % d.freq ≡ 0) disks (num_minors_common disks each),
      (λ n common. num_minors_divides disks n each (λ k d at. all_at (λ (d : Disk). n % d.freq ≡ 0) disks k d common at)),
    )
