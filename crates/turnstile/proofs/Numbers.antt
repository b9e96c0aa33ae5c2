-- How often a list of numbers has a number.
use Rattle.std.proofs.Common.{◌≡◌, ℕ, zero, suc, ◌+◌, ◌<◌, ◌≤◌, Bool, true, false, cond, leb, List, [], ◌∷◌, ◌++◌, length, get_or, sym, refl, ap, arith, take, drop, eq-eqb, ne_eqb}
use Rattle.std.specs.Prelude.{◌==◌, Contains}
use mathlib.Core.Logic.{dite}
use native.Mathlib.Decide.{ℕ_discrete}
use Rattle.std.proofs.lemmas.Bool.{leb-true}
use Rattle.std.proofs.lemmas.Bool.Decides.{leb_tells}
use Rattle.turnstile.specs.Private.TurnstileRule.{once_below}
use Rattle.turnstile.specs.Private.SeatViews.{times, numbers_from}

pub times_append : (n : ℕ) (xs ys : List ℕ) → times n (xs ++ ys) ≡ times n xs + times n ys
times_append n [] ys = omega arith
times_append n (x ∷ xs) ys = let h = times_append n xs ys in omega arith

once_at : (n bound : ℕ) (b : Bool) → leb (suc n) bound ≡ b → cond b 1 0 ≤ 1
once_at n bound true e = omega arith
once_at n bound false e = omega arith

below_at : (n bound : ℕ) (b : Bool) → leb (suc n) bound ≡ b → 0 < cond b 1 0 → n < bound
below_at n bound true e h = leb-true (suc n) bound e
below_at n bound false e h = absurd (omega arith)

pub once_low : (n bound : ℕ) → once_below n bound ≤ 1
once_low n bound = once_at n bound (leb (suc n) bound) refl

pub once_in : (n bound : ℕ) → 0 < once_below n bound → n < bound
once_in n bound = below_at n bound (leb (suc n) bound) refl

pub shorter : (a b : ℕ) → leb a b ≡ false → b < a
shorter a b e = grind (arith, leb_tells)

pub part_times : (n : ℕ) (ns : List ℕ) → times n (drop 1 ns) + times n (take 1 ns) ≡ times n ns
part_times n [] = refl
part_times n (x ∷ xs) = omega arith

pub part_length : (ns : List ℕ) → length (drop 1 ns) + length (take 1 ns) ≡ length ns
part_length [] = refl
part_length (x ∷ xs) = omega arith

-- A number that a list contains is counted at least once.
times_at : (n : ℕ) (ns : List ℕ) (k : ℕ) → k < length ns → get_or ns k n ≡ n → 0 < times n ns
times_at n [] k less is = absurd (omega arith)
times_at n (x ∷ xs) zero less is = let e : cond {A = ℕ} (n == x) 1 0 ≡ 1 = ap (λ b. cond b 1 0) (eq-eqb n x (sym is)) in omega arith
times_at n (x ∷ xs) (suc k) less is = let h = times_at n xs k (omega arith) is in omega arith

pub times_in : (n : ℕ) (ns : List ℕ) → Contains ns n → 0 < times n ns
times_in n ns c = times_at n ns c.0 c.1 c.2

pub contains_of : (n : ℕ) (ns : List ℕ) → 0 < times n ns → Contains ns n
contains_of n [] h = absurd (omega arith)
contains_of n (x ∷ xs) h = dite (ℕ_discrete n x) (λ s. (0, omega arith, sym s))
    (λ s. let f : cond {A = ℕ} (n == x) 1 0 ≡ 0 = ap (λ b. cond b 1 0) (ne_eqb n x s) in
    let c = contains_of n xs (omega arith) in
    let less = c.1 in
    (suc c.0, omega arith, c.2))

-- If a part of the numbers contains n, all of them do.
pub taken_numbers : (ns : List ℕ) (n : ℕ) → Contains (take 1 ns) n → Contains ns n
taken_numbers ns n c = contains_of n ns (let a = times_in n (take 1 ns) c in let p = part_times n ns in omega arith)

pub dropped_numbers : (ns : List ℕ) (n : ℕ) → Contains (drop 1 ns) n → Contains ns n
dropped_numbers ns n c = contains_of n ns (let a = times_in n (drop 1 ns) c in let p = part_times n ns in omega arith)

pub some_number : (ns : List ℕ) → 0 < length ns → (n : ℕ) × Contains ns n
some_number [] h = absurd (omega arith)
some_number (x ∷ xs) h = (x, (0, omega arith, refl))

pub length_from : (k c : ℕ) → length (numbers_from k c) ≡ c
length_from k zero = refl
length_from k (suc c) = let h = length_from (suc k) c in omega arith

-- Each number from k on is in the list just once.
pub times_low : (n k c : ℕ) → n < k → times n (numbers_from k c) ≡ 0
times_low n k zero h = refl
times_low n k (suc c) h = let r = times_low n (suc k) c (omega arith) in let e : (n == k) ≡ false = ne_eqb n k (λ s. omega arith) in let f : cond {A = ℕ} (n == k) 1 0 ≡ 0 = ap (λ b. cond b 1 0) e in omega arith

pub times_mid : (n k c : ℕ) → k ≤ n → n < k + c → times n (numbers_from k c) ≡ 1
times_mid n k zero h l = absurd (omega arith)
times_mid n k (suc c) h l = dite (ℕ_discrete n k)
    (λ s. let r = times_low n (suc k) c (omega arith) in let f : cond {A = ℕ} (n == k) 1 0 ≡ 1 = ap (λ b. cond b 1 0) (eq-eqb n k s) in omega arith)
    (λ s. let r = times_mid n (suc k) c (omega arith) (omega arith) in let f : cond {A = ℕ} (n == k) 1 0 ≡ 0 = ap (λ b. cond b 1 0) (ne_eqb n k s) in omega arith)

pub times_high : (n k c : ℕ) → k + c ≤ n → times n (numbers_from k c) ≡ 0
times_high n k zero h = refl
times_high n k (suc c) h = let r = times_high n (suc k) c (omega arith) in let f : cond {A = ℕ} (n == k) 1 0 ≡ 0 = ap (λ b. cond b 1 0) (ne_eqb n k (λ s. omega arith)) in omega arith

once_case : (n c : ℕ) (b : Bool) → leb (suc n) c ≡ b → times n (numbers_from 0 c) ≡ cond b 1 0
once_case n c true e = let l = leb-true (suc n) c e in times_mid n 0 c (omega arith) (omega arith)
once_case n c false e = let l = shorter (suc n) c e in times_high n 0 c (omega arith)

pub once_from : (n c : ℕ) → times n (numbers_from 0 c) ≡ once_below n c
once_from n c = once_case n c (leb (suc n) c) refl
