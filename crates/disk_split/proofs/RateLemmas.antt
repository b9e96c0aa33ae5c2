-- The sums of the first rates.
use Rattle.std.proofs.Common.{◌≡◌, ◌≤◌, ◌<◌, ◌⊎◌, inl, inr, ◌+◌, ◌++◌, ◌^◌, ℕ, List, [], ◌∷◌, length, get_or, slice_index, map, take, drop, sum, sym, ap, ◌∙◌, arith, zero-add}
use Rattle.std.specs.List.{range_with_len}
use Rattle.std.proofs.lemmas.Bool.{cases_lt}
use Rattle.std.proofs.lemmas.List.{drop-take, get_or_past, take-take}
use Rattle.std.proofs.lemmas.List.FromFn.{get_or-map-range_with_len, length-map-range_with_len, map-range_with_len_more}
use Rattle.std.proofs.lemmas.List.Sums.{sum_by_more, sum_by-take-drop, sum_by-take-le}
use Rattle.air_base.specs.declared.limits.TheConstants.{ITEM_NUMBERS}
use Rattle.disk_split.specs.Numbers.{sums_of}
use Rattle.disk_split.specs.Rests.{AreSums, rates_from}

-- ---- the sums
pub length-sums_of : (rates : List ℕ) → length (sums_of rates) ≡ length rates + 1
unfolding sums_of
length-sums_of rates = length-map-range_with_len (λ k. sum (take k rates)) 0 (length rates + 1)

pub sum_at : (rates : List ℕ) (k : ℕ) → k < length rates + 1 → slice_index (sums_of rates) k ≡ sum (take k rates)
unfolding sums_of
sum_at rates k below = get_or-map-range_with_len (λ k. sum (take k rates)) 0 (length rates + 1) k k 0 below (zero-add k)

pub are_sums : (rates : List ℕ) → length rates < ITEM_NUMBERS → sum rates < 2 ^ 32 → AreSums (sums_of rates)
are_sums rates few small = record {
  some = (let long = length-sums_of rates in omega arith);
  few = (let long = length-sums_of rates in omega arith);
  rising = λ i j up below. by i j up (let long = length-sums_of rates in omega arith);
  small = λ i. each i (cases_lt i (length rates + 1));
}
  where
    by : (i j : ℕ) → i ≤ j → j < length rates + 1 → slice_index (sums_of rates) i ≤ slice_index (sums_of rates) j
    by i j up below =
        let one = sum_at rates i (omega arith) in let two = sum_at rates j below in
        let less = sum_by-take-le (λ x. x) (take j rates) i in
        let same = ap sum (take-take i j rates up) in omega arith

    each : (i : ℕ) → ((i < length rates + 1) ⊎ (length rates + 1 ≤ i)) → slice_index (sums_of rates) i < 2 ^ 32
    each i (inl less) = let at = sum_at rates i less in let low = sum_by-take-le (λ x. x) rates i in omega arith
    each i (inr more) = let long = length-sums_of rates in let none = get_or_past (sums_of rates) i 0 (omega arith) in omega arith

pub rates_between : (rates : List ℕ) (from size : ℕ) → from + size ≤ length rates → rates_from (sums_of rates) from size ≡ sum (take size (drop from rates))
rates_between rates from size within =
    let one = sum_at rates from (omega arith) in let two = sum_at rates (from + size) (omega arith) in
    let parts = sum_by-take-drop (λ x. x) (take (from + size) rates) from in
    let front = ap sum (take-take from (from + size) rates (omega arith)) in
    let back = ap sum (drop-take from size rates) in omega arith

-- ---- the sums, one rate on
pub sum_more : (rates : List ℕ) (k sum_so rate : ℕ) → k < length rates → sum_so ≡ sum (take k rates) → rate ≡ get_or rates k 0 → sum_so + rate ≡ sum (take (k + 1) rates)
sum_more rates k sum_so rate below told is = let more = sum_by_more (λ x. x) rates k 0 below in omega arith

pub sum_fits : (rates : List ℕ) (k sum_so rate : ℕ) → k < length rates → sum rates < 2 ^ 64 → sum_so ≡ sum (take k rates) → rate ≡ get_or rates k 0 → sum_so + rate < 2 ^ 64
sum_fits rates k sum_so rate below fits told is =
    let more = sum_more rates k sum_so rate below told is in let less = sum_by-take-le (λ x. x) rates (k + 1) in omega arith

pub sums_more : (rates : List ℕ) (k next : ℕ) (sums new : List ℕ) → sums ≡ map (λ k. sum (take k rates)) (range_with_len 0 (k + 1)) → next ≡ sum (take (k + 1) rates) → new ≡ sums ++ next ∷ []
    → new ≡ map (λ k. sum (take k rates)) (range_with_len 0 (k + 1 + 1))
sums_more rates k next sums new told is grew =
    grew ∙ ap (λ l. l ++ next ∷ []) told ∙ ap (λ n. map (λ k. sum (take k rates)) (range_with_len 0 (k + 1)) ++ n ∷ []) is
    ∙ sym (map-range_with_len_more (λ k. sum (take k rates)) 0 (k + 1) (k + 1) (zero-add (k + 1)))

pub sums_whole : (rates : List ℕ) (k : ℕ) (sums : List ℕ) → k ≡ length rates → sums ≡ map (λ k. sum (take k rates)) (range_with_len 0 (k + 1)) → sums ≡ sums_of rates
unfolding sums_of
sums_whole rates k sums long told = told ∙ ap (λ n. map (λ k. sum (take k rates)) (range_with_len 0 (n + 1))) long
