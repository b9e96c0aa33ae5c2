-- Sizes for the disks from one on: how many slots a minor cycle has at least and at most, and how much they weigh at most.
use Rattle.std.proofs.Common.{◌≡◌, ◌≤◌, ◌<◌, ◌⊎◌, inl, inr, ◌+◌, ◌-◌, ◌*◌, ◌^◌, ℕ, zero, suc, List, [], ◌∷◌, length, slice_index, arith}
use Rattle.std.specs.List.{All}
use Rattle.std.proofs.lemmas.Bool.{cases_lt}
use Rattle.std.proofs.lemmas.List.Elements.{All-head, All-tail}
use Rattle.std.proofs.lemmas.Nat.{mod_below}
use Rattle.std.proofs.Math.Nat.{div-add-mod', mul-le-mul_left, mul-le-mul_right}
use Rattle.air_base.specs.declared.limits.TheConstants.{MOST_SLOTS}
use Rattle.disk_split.specs.Rests.{AreChunks, AreSums, IsSplitRest, chunk_slots, minor_from, weight_from}

-- ---- the slots of a chunk
pub covers : (c s : ℕ) → 1 ≤ c → s ≤ chunk_slots c s * c
covers c s some = let whole = div-add-mod' (s + c - 1) c in let rest = mod_below (s + c - 1) c some in omega arith

pub fewest : (c s k : ℕ) → 1 ≤ c → s ≤ k * c → chunk_slots c s ≤ k
fewest c s k some fits = by (cases_lt k (chunk_slots c s))
  where
    by : ((k < chunk_slots c s) ⊎ (chunk_slots c s ≤ k)) → chunk_slots c s ≤ k
    by (inl more) = absurd (
        let whole = div-add-mod' (s + c - 1) c in
        let grows : suc k * c ≤ chunk_slots c s * c = mul-le-mul_right c more in
        let next : suc k * c ≡ k * c + c = omega arith in omega arith)
    by (inr less) = less

pub filled : (c s : ℕ) → 1 ≤ c → 1 ≤ s → 1 ≤ chunk_slots c s
filled c s some full = by (chunk_slots c s) (covers c s some)
  where
    by : (q : ℕ) → s ≤ q * c → 1 ≤ q
    by zero h = absurd (omega arith)
    by (suc q) h = omega arith

pub no_more : (c s : ℕ) → 1 ≤ c → chunk_slots c s ≤ s
no_more c s some = fewest c s s some (let grows : s * 1 ≤ s * c = mul-le-mul_left s some in omega arith)

-- ---- all sizes
pub rest_within : (sums cs : List ℕ) (from : ℕ) (sizes : List ℕ) → IsSplitRest sums cs from sizes → from < length sums
unfolding IsSplitRest
rest_within sums [] from [] h = omega arith
rest_within sums [] from (s ∷ ss) h = absurd h
rest_within sums (c ∷ cs) from [] h = absurd h
rest_within sums (c ∷ cs) from (s ∷ ss) h = let more = rest_within sums cs (from + s) ss h.1 in omega arith

pub slots_few : (sums cs : List ℕ) (from : ℕ) (sizes : List ℕ) → All (λ c. 1 ≤ c) cs → IsSplitRest sums cs from sizes → minor_from cs sizes + from + 1 ≤ length sums
unfolding IsSplitRest minor_from
slots_few sums [] from [] some h = omega arith
slots_few sums [] from (s ∷ ss) some h = absurd h
slots_few sums (c ∷ cs) from [] some h = absurd h
slots_few sums (c ∷ cs) from (s ∷ ss) some h =
    let more = slots_few sums cs (from + s) ss (All-tail (λ c. 1 ≤ c) c cs some) h.1 in
    let own = no_more c s (All-head (λ c. 1 ≤ c) c cs some) in omega arith

pub slots_many : (sums cs : List ℕ) (from : ℕ) (sizes : List ℕ) → All (λ c. 1 ≤ c) cs → IsSplitRest sums cs from sizes → length cs ≤ minor_from cs sizes
unfolding IsSplitRest minor_from
slots_many sums [] from [] some h = omega arith
slots_many sums [] from (s ∷ ss) some h = absurd h
slots_many sums (c ∷ cs) from [] some h = absurd h
slots_many sums (c ∷ cs) from (s ∷ ss) some h =
    let more = slots_many sums cs (from + s) ss (All-tail (λ c. 1 ≤ c) c cs some) h.1 in
    let own = filled c s (All-head (λ c. 1 ≤ c) c cs some) h.0 in omega arith

spread : (m a b : ℕ) → a ≤ b → m * (b - a) + m * a ≡ m * b
spread m a b up = by (b - a) (omega arith)
  where
    by : (d : ℕ) → b ≡ d + a → m * d + m * a ≡ m * b
    by d e = rw e (omega arith)

-- What they weigh is at most the most chunks times the rates from the place on.
pub weight_few : (sums cs : List ℕ) (most from : ℕ) (sizes : List ℕ) → AreSums sums → All (λ c. c ≤ most) cs → IsSplitRest sums cs from sizes
    → weight_from sums cs from sizes + most * slice_index sums from ≤ most * slice_index sums (length sums - 1)
unfolding IsSplitRest weight_from
weight_few sums [] most from [] are few h = let same : length sums - 1 ≡ from = omega arith in rw same (omega arith)
weight_few sums [] most from (s ∷ ss) are few h = absurd h
weight_few sums (c ∷ cs) most from [] are few h = absurd h
weight_few sums (c ∷ cs) most from (s ∷ ss) are few h =
    let a = slice_index sums from in let b = slice_index sums (from + s) in
    let up : a ≤ b = are.rising from (from + s) (omega arith) (rest_within sums cs (from + s) ss h.1) in
    let own : c * (b - a) ≤ most * (b - a) = mul-le-mul_right (b - a) (All-head (λ c. c ≤ most) c cs few) in
    let parts = spread most a b up in
    let more = weight_few sums cs most (from + s) ss are (All-tail (λ c. c ≤ most) c cs few) h.1 in omega arith

pub weight_small : (sums cs : List ℕ) (from : ℕ) (sizes : List ℕ) → AreSums sums → AreChunks cs → IsSplitRest sums cs from sizes → weight_from sums cs from sizes < 2 ^ 46
weight_small sums cs from sizes are chunks h =
    let most = weight_few sums cs MOST_SLOTS from sizes are chunks.few h in let small = are.small (length sums - 1) in omega arith
