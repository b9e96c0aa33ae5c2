-- The one spelling of a number in big-endian bytes.
-- `one_spelling` says that bytes are the spelling of the number that they read as; buckets and tapes use it.
use Rattle.std.proofs.Common.{◌≡◌, ◌≤◌, ◌<◌, ◌+◌, ◌*◌, ◌^◌, ◌/◌, ℕ, zero, suc, List, [], ◌∷◌, length, take, get_or, sym, ◌∙◌, ap, subst, arith, refl}
use Rattle.std.proofs.lemmas.Nat.{div-mul-add}
use Rattle.std.proofs.Math.Nat.{mod-lt}
use Rattle.std.proofs.lemmas.List.{append-nil, get_or_default, length-take}
use Rattle.std.specs.Int.{byte_at, bytes_high_first}
use Rattle.byteorder.specs.Endian.{big_from, big_number, big_bytes}
use Rattle.byteorder.specs.Numbers.{big_from-cons, big_from-lt, big_from-take, big_number-reads_back, length-bytes_high_first}
use Rattle.air_model.specs.Buckets.{AreBytes}

-- Each element is a byte, and after the end there is 0; this is how a byte slice is seen.
abbrev pub AllBytes : List ℕ → Type 0
AllBytes xs = (i : ℕ) → get_or xs i 0 < 256

pub all_bytes : (xs : List ℕ) → AreBytes xs → AllBytes xs
all_bytes [] are i = omega arith
all_bytes (x ∷ xs) are zero = are 0 0 (omega arith)
all_bytes (x ∷ xs) are (suc i) = all_bytes xs (λ k d below. are (suc k) d (omega arith)) i

pub are_bytes : (xs : List ℕ) → AllBytes xs → AreBytes xs
are_bytes xs all k d below = subst (λ x. x < 256) (get_or_default xs k 0 d below) (all k)

pub rest_bytes : (x : ℕ) (xs : List ℕ) → AllBytes (x ∷ xs) → AllBytes xs
rest_bytes x xs all i = all (suc i)

-- A digit and what is below its place are determined by their sum.
same_digit : (x y p m k : ℕ) → m < p → k < p → x * p + m ≡ y * p + k → (x ≡ y) × (m ≡ k)
same_digit x y p m k small tiny same =
    let digit : x ≡ y = sym (div-mul-add x p m small) ∙ ap (λ v. v / p) same ∙ div-mul-add y p k tiny in
    let low = rw digit at same in
    (digit, omega arith)

-- Equally many bytes with the same number are equal.
same_bytes : (n : ℕ) (xs ys : List ℕ) → length xs ≡ n → length ys ≡ n → AllBytes xs → AllBytes ys → big_from 0 n xs ≡ big_from 0 n ys → xs ≡ ys
same_bytes zero [] [] a b all every same = refl
same_bytes zero (x ∷ xs) ys a b all every same = absurd (omega arith)
same_bytes zero [] (y ∷ ys) a b all every same = absurd (omega arith)
same_bytes (suc n) [] ys a b all every same = absurd (omega arith)
same_bytes (suc n) (x ∷ xs) [] a b all every same = absurd (omega arith)
same_bytes (suc n) (x ∷ xs) (y ∷ ys) a b all every same =
    let moved = big_from-cons 0 n x xs in
    let other = big_from-cons 0 n y ys in
    let low = big_from-lt 0 n xs (rest_bytes x xs all) in
    let under = big_from-lt 0 n ys (rest_bytes y ys every) in
    let d = same_digit x y (256 ^ n) (big_from 0 n xs) (big_from 0 n ys) low under (ap (λ m. x * 256 ^ n + m) (sym moved) ∙ same ∙ ap (λ m. y * 256 ^ n + m) other) in
    rw (d.0, same_bytes n xs ys (omega arith) (omega arith) (rest_bytes x xs all) (rest_bytes y ys every) d.1) refl

-- The bytes of a number are bytes.
bytes_of_all : (n x : ℕ) → AllBytes (bytes_high_first n x)
bytes_of_all zero x i = omega arith
bytes_of_all (suc n) x zero = digit n
  where
    digit : (k : ℕ) → byte_at k x < 256
    digit zero = mod-lt x (omega arith)
    digit (suc k) = mod-lt (x / 256 ^ suc k) (omega arith)
bytes_of_all (suc n) x (suc i) = bytes_of_all n x i

pub front_bytes : (m : ℕ) (l : List ℕ) → AllBytes l → AllBytes (take m l)
front_bytes zero l each i = omega arith
front_bytes (suc m) [] each i = each i
front_bytes (suc m) (x ∷ l) each zero = each 0
front_bytes (suc m) (x ∷ l) each (suc i) = front_bytes m l (λ k. each (suc k)) i

-- The first n bytes are the one spelling of the number that they read as.
pub one_spelling : (n : ℕ) (xs : List ℕ) → n ≤ length xs → AllBytes xs → take n xs ≡ big_bytes n (big_number n xs)
one_spelling n xs room all =
    let number = big_number n xs in
    let front : big_from 0 n (take n xs) ≡ number = big_from-take 0 n n xs (omega arith) in
    let back : big_from 0 n (bytes_high_first n number) ≡ number = rw (append-nil (bytes_high_first n number)) at (big_number-reads_back n number [] (big_from-lt 0 n xs all)) in
    same_bytes n (take n xs) (bytes_high_first n number) (omega (arith, length-take n xs)) (length-bytes_high_first n number) (front_bytes n xs all) (bytes_of_all n number) (front ∙ sym back)
