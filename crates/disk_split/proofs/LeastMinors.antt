-- The fewest slots of a minor cycle: each disk has a chunk of one, and the disk of most chunks takes what doesn't fit in these.
use Rattle.std.proofs.Common.{◌≡◌, ◌≤◌, ◌<◌, ◌⊎◌, inl, inr, ◌+◌, ◌-◌, ◌*◌, ◌^◌, ℕ, zero, suc, List, [], ◌∷◌, length, get_or, max, slice_get, Some, sum, take, refl, subst, ap, arith}
use Rattle.std.specs.List.{All, Contains}
use Rattle.std.proofs.Math.Nat.{mul-le-mul_left, mul-le-mul_right}
use Rattle.std.proofs.lemmas.Bool.{cases_lt}
use Rattle.std.proofs.lemmas.List.Elements.{All-contains, All-head, All-more, All-tail, All-weaker, Contains-get_or}
use Rattle.std.proofs.lemmas.List.Sums.{sum_by-cons, sum_by_more, sum_by-le, sum_by-take-le}
use Rattle.std.proofs.lemmas.Option.{same_Some}
use Rattle.air_model.proofs.Elements.{contains_has}
use Rattle.disk_split.specs.Numbers.{IsLeastMinor}
use Rattle.disk_split.specs.Rests.{IsSplitRest, chunk_slots, minor_from}
use Rattle.disk_split.proofs.RestLemmas.{covers, fewest, filled, slots_many}

-- ---- no sizes have fewer
-- An item more than a chunk of one slot takes costs a slot, which takes as many as the disk has chunks.
one_disk : (c s most : ℕ) → 1 ≤ c → c ≤ most → 1 ≤ s → s + most ≤ c + most * chunk_slots c s
one_disk c s most some few full = by (chunk_slots c s) (filled c s some full) (covers c s some)
  where
    by : (q : ℕ) → 1 ≤ q → s ≤ q * c → s + most ≤ c + most * q
    by zero one fits = absurd (omega arith)
    by (suc q) one fits =
        let grows : q * c ≤ q * most = mul-le-mul_left q few in
        let next : suc q * c ≡ q * c + c = omega arith in
        let more : most * suc q ≡ q * most + most = omega arith in omega arith

pub not_fewer : (sums cs : List ℕ) (most from : ℕ) (sizes : List ℕ) → All (λ c. 1 ≤ c) cs → All (λ c. c ≤ most) cs → IsSplitRest sums cs from sizes
    → length sums + most * length cs ≤ sum cs + most * minor_from cs sizes + from + 1
unfolding IsSplitRest minor_from
not_fewer sums [] most from [] some few h = omega arith
not_fewer sums [] most from (s ∷ ss) some few h = absurd h
not_fewer sums (c ∷ cs) most from [] some few h = absurd h
not_fewer sums (c ∷ cs) most from (s ∷ ss) some few h =
    let own = one_disk c s most (All-head (λ c. 1 ≤ c) c cs some) (All-head (λ c. c ≤ most) c cs few) h.0 in
    let more = not_fewer sums cs most (from + s) ss (All-tail (λ c. 1 ≤ c) c cs some) (All-tail (λ c. c ≤ most) c cs few) h.1 in
    let all = sum_by-cons (λ x. x) c cs in
    let long : most * suc (length cs) ≡ most * length cs + most = omega arith in
    let both : most * (chunk_slots c s + minor_from cs ss) ≡ most * chunk_slots c s + most * minor_from cs ss = omega arith in omega arith

-- ---- some sizes reach that number
-- If there are no more items than room, some sizes for the disks from one on take them all, with at most this number of slots.
abbrev Fills : List ℕ → List ℕ → ℕ → ℕ → Type 0
Fills sums cs room slots = (from items : ℕ) → from + items + 1 ≡ length sums → length cs ≤ items → items ≤ room → (sizes : List ℕ) × IsSplitRest sums cs from sizes × (minor_from cs sizes ≤ slots)

fills_none : (sums : List ℕ) (room : ℕ) → room ≡ 0 → Fills sums [] room 0
unfolding IsSplitRest minor_from
fills_none sums room e from items at many fits = ([], omega arith, omega arith)

-- One disk more, with k slots of its own.
fills_more : (sums cs : List ℕ) (c k room slots : ℕ) → 1 ≤ c → 1 ≤ k → length cs ≤ room → Fills sums cs room slots → Fills sums (c ∷ cs) (k * c + room) (k + slots)
unfolding IsSplitRest minor_from
fills_more sums cs c k room slots some one wide rest from items at many fits = by (cases_lt (k * c) (items - length cs))
  where
    all : 1 ≤ k * c
    all = let grows : 1 * c ≤ k * c = mul-le-mul_right c one in omega arith

    put : (s : ℕ) → 1 ≤ s → s ≤ k * c → s + length cs ≤ items → items ≤ s + room → (sizes : List ℕ) × IsSplitRest sums (c ∷ cs) from sizes × (minor_from (c ∷ cs) sizes ≤ k + slots)
    put s full low left behind =
        let more = rest (from + s) (items - s) (omega arith) (omega arith) (omega arith) in
        let own = fewest c s k some low in let long = more.2 in
        (s ∷ more.0, (full, more.1), omega arith)

    by : ((k * c < items - length cs) ⊎ (items - length cs ≤ k * c)) → (sizes : List ℕ) × IsSplitRest sums (c ∷ cs) from sizes × (minor_from (c ∷ cs) sizes ≤ k + slots)
    by (inl less) = put (k * c) all (omega arith) (omega arith) (omega arith)
    by (inr more) = put (items - length cs) (omega arith) more (omega arith) (omega arith)

sum_many : (cs : List ℕ) → All (λ c. 1 ≤ c) cs → length cs ≤ sum cs
sum_many [] some = omega arith
sum_many (c ∷ cs) some =
    let more = sum_many cs (All-tail (λ c. 1 ≤ c) c cs some) in let own = All-head (λ c. 1 ≤ c) c cs some in let all = sum_by-cons (λ x. x) c cs in omega arith

again : (sums cs : List ℕ) (a b m n : ℕ) → a ≡ b → m ≡ n → Fills sums cs a m → Fills sums cs b n
again sums cs a b m n e f h = subst (λ x. Fills sums cs x n) e (subst (λ x. Fills sums cs a x) f h)

-- A chunk of one slot on each disk.
fills_one : (sums cs : List ℕ) → All (λ c. 1 ≤ c) cs → Fills sums cs (sum cs) (length cs)
fills_one sums [] some = fills_none sums 0 refl
fills_one sums (c ∷ cs) some =
    let tail = All-tail (λ c. 1 ≤ c) c cs some in
    again sums (c ∷ cs) (1 * c + sum cs) (sum (c ∷ cs)) (1 + length cs) (suc (length cs)) (let all = sum_by-cons (λ x. x) c cs in omega arith) (omega arith)
    (fills_more sums cs c 1 (sum cs) (length cs) (All-head (λ c. 1 ≤ c) c cs some) (omega arith) (sum_many cs tail) (fills_one sums cs tail))

-- A chunk of one slot on each disk, and k slots more on one disk.
fills_most : (sums cs : List ℕ) (most k place : ℕ) → All (λ c. 1 ≤ c) cs → slice_get cs place ≡ Some most → Fills sums cs (sum cs + k * most) (length cs + k)
fills_most sums [] most k place some at = cc at
fills_most sums (c ∷ cs) most k zero some at =
    let tail = All-tail (λ c. 1 ≤ c) c cs some in let is = same_Some c most at in
    let grows : k * c ≡ k * most = ap (λ n. k * n) is in
    let room : suc k * c ≡ k * c + c = omega arith in
    again sums (c ∷ cs) (suc k * c + sum cs) (sum (c ∷ cs) + k * most) (suc k + length cs) (suc (length cs) + k) (let all = sum_by-cons (λ x. x) c cs in omega arith) (omega arith)
    (fills_more sums cs c (suc k) (sum cs) (length cs) (All-head (λ c. 1 ≤ c) c cs some) (omega arith) (sum_many cs tail) (fills_one sums cs tail))
fills_most sums (c ∷ cs) most k (suc place) some at =
    let tail = All-tail (λ c. 1 ≤ c) c cs some in
    again sums (c ∷ cs) (1 * c + (sum cs + k * most)) (sum (c ∷ cs) + k * most) (1 + (length cs + k)) (suc (length cs) + k) (let all = sum_by-cons (λ x. x) c cs in omega arith) (omega arith)
    (fills_more sums cs c 1 (sum cs + k * most) (length cs + k) (All-head (λ c. 1 ≤ c) c cs some) (omega arith) (let many = sum_many cs tail in omega arith) (fills_most sums cs most k place tail at))

-- ---- both
pub least_minor_is : (sums cs : List ℕ) (most place items : ℕ) → All (λ c. 1 ≤ c) cs → All (λ c. c ≤ most) cs → slice_get cs place ≡ Some most → 1 ≤ most → length sums ≡ items + 1 → length cs ≤ items
    → IsLeastMinor sums cs (length cs + chunk_slots most (items - sum cs))
least_minor_is sums cs most place items some few at one long many = record {
  reached = by (filled_all 0 items (omega arith) many (let own = covers most (items - sum cs) one in omega arith));
  fewest = bound;
}
  where
    bound : (sizes : List ℕ) → IsSplitRest sums cs 0 sizes → length cs + chunk_slots most (items - sum cs) ≤ minor_from cs sizes
    bound sizes rest =
        let low = not_fewer sums cs most 0 sizes some few rest in
        let many = slots_many sums cs 0 sizes some rest in
        let parts : most * (minor_from cs sizes - length cs) + most * length cs ≡ most * minor_from cs sizes = split (minor_from cs sizes) (length cs) many in
        let fits : items - sum cs ≤ (minor_from cs sizes - length cs) * most = (let turned : (minor_from cs sizes - length cs) * most ≡ most * (minor_from cs sizes - length cs) = omega arith in omega arith) in
        let own = fewest most (items - sum cs) (minor_from cs sizes - length cs) one fits in omega arith
      where
        split : (a b : ℕ) → b ≤ a → most * (a - b) + most * b ≡ most * a
        split a b up = parted (a - b) (omega arith)
          where
            parted : (d : ℕ) → a ≡ d + b → most * d + most * b ≡ most * a
            parted d e = rw e (omega arith)

    filled_all : Fills sums cs (sum cs + chunk_slots most (items - sum cs) * most) (length cs + chunk_slots most (items - sum cs))
    filled_all = fills_most sums cs most (chunk_slots most (items - sum cs)) place some at

    by : (sizes : List ℕ) × IsSplitRest sums cs 0 sizes × (minor_from cs sizes ≤ length cs + chunk_slots most (items - sum cs))
        → (sizes : List ℕ) × IsSplitRest sums cs 0 sizes × (minor_from cs sizes ≡ length cs + chunk_slots most (items - sum cs))
    by (sizes, rest, under) = let over = bound sizes rest in (sizes, rest, omega arith)

-- ---- the greatest of the numbers, and their sum, one number on
pub most_more : (xs : List ℕ) (k most new : ℕ) → k < length xs → new ≡ max most (get_or xs k 0) → All (λ c. c ≤ most) (take k xs) → All (λ c. c ≤ new) (take (k + 1) xs)
most_more xs k most new below is few =
    All-more (λ c. c ≤ new) xs k 0 below (All-weaker (λ c. c ≤ most) (λ c. c ≤ new) (λ c low. omega arith) (take k xs) few) (omega arith)

pub own_more : (xs : List ℕ) (k most new : ℕ) → k < length xs → new ≡ max most (get_or xs k 0) → Contains xs most → Contains xs new
own_more xs k most new below is own = by (cases_lt most (get_or xs k 0))
  where
    by : ((most < get_or xs k 0) ⊎ (get_or xs k 0 ≤ most)) → Contains xs new
    by (inl less) = subst (Contains xs) (let e : get_or xs k 0 ≡ new = omega arith in e) (Contains-get_or xs k 0 below)
    by (inr more) = subst (Contains xs) (let e : most ≡ new = omega arith in e) own

pub all_fits : (xs : List ℕ) (k all : ℕ) → k < length xs → length xs < 65536 → All (λ c. c ≤ 2 ^ 48) xs → all ≡ sum (take k xs) → all + get_or xs k 0 < 2 ^ 64
all_fits xs k all below many few told =
    let more = sum_by_more (λ x. x) xs k 0 below in let less = sum_by-take-le (λ x. x) xs (k + 1) in
    let most = sum_by-le (λ x. x) (2 ^ 48) xs few in omega arith

pub least_is : (sums cs : List ℕ) (most items : ℕ) → All (λ c. 1 ≤ c) cs → All (λ c. c ≤ most) cs → Contains cs most → length sums ≡ items + 1 → length cs ≤ items
    → IsLeastMinor sums cs (length cs + chunk_slots most (items - sum cs))
least_is sums cs most items some few own long many =
    let at = contains_has cs most own in
    least_minor_is sums cs most at.0 items some few at.1 (All-contains (λ c. 1 ≤ c) cs most some own) long many
