-- A row of the table, once the disk may also take the next number of items.
use Rattle.std.proofs.Common.{◌≡◌, ◌≤◌, ◌<◌, ◌⊎◌, inl, inr, ◌+◌, ◌-◌, ◌*◌, ℕ, Option, Some, None, List, [], ◌∷◌, length, slice_index, min, refl, subst, ap, arith}
use Rattle.std.proofs.lemmas.Bool.{cases_lt}
use Rattle.std.proofs.lemmas.Option.{none-some, same_Some}
use Rattle.disk_split.specs.Rests.{IsSplitRest, IsRestOf, chunk_slots, minor_from, rates_from, weight_from}
use Rattle.disk_split.specs.Private.Tables.{IsCell, IsCellBelow, lesser_weight_with}
use Rattle.disk_split.proofs.RestLemmas.{rest_within}

-- No size is below 1.
pub below_one : (sums cs : List ℕ) (c from len : ℕ) → IsCellBelow sums (c ∷ cs) from len 1 None
unfolding IsSplitRest
below_one sums cs c from len = record {
  reached = λ w e. absurd (none-some w e);
  least = λ sizes below rest slots. absurd (none sizes below rest);
}
  where
    none : (sizes : List ℕ) → slice_index sizes 0 < 1 → IsSplitRest sums (c ∷ cs) from sizes → ⊥
    none [] below rest = rest
    none (s ∷ ss) below rest = let full = rest.0 in omega arith

-- The sizes after a first one.
record IsTaken (sums cs : List ℕ) (c from len top : ℕ) (sizes : List ℕ) : Type 0 where
  tail : List ℕ
  rest : IsSplitRest sums cs (from + top) tail
  slots : minor_from cs tail ≡ len - chunk_slots c top
  room : chunk_slots c top ≤ len
  weighs : weight_from sums (c ∷ cs) from sizes ≡ c * rates_from sums from top + weight_from sums cs (from + top) tail

taken : (sums cs : List ℕ) (c from len top : ℕ) (sizes : List ℕ) → slice_index sizes 0 < top + 1 → IsSplitRest sums (c ∷ cs) from sizes → minor_from (c ∷ cs) sizes ≡ len
    → (slice_index sizes 0 < top) ⊎ IsTaken sums cs c from len top sizes
unfolding IsSplitRest minor_from weight_from
taken sums cs c from len top [] below rest slots = absurd rest
taken sums cs c from len top (s ∷ ss) below rest slots = by (cases_lt s top)
  where
    by : ((s < top) ⊎ (top ≤ s)) → (s < top) ⊎ IsTaken sums cs c from len top (s ∷ ss)
    by (inl less) = inl less
    by (inr more) =
        let same : s ≡ top = omega arith in
        inr (subst (λ n. IsTaken sums cs c from len n (s ∷ ss)) same (record { tail = ss; rest = rest.1; slots = omega arith; room = omega arith; weighs = refl }))

-- The next size puts itself before what the disks after it reach.
pub put_before : (sums cs : List ℕ) (c from len top r : ℕ) (sizes : List ℕ) → 1 ≤ top → chunk_slots c top ≤ len → IsRestOf sums cs (from + top) (len - chunk_slots c top) r sizes
    → IsRestOf sums (c ∷ cs) from len (r + c * rates_from sums from top) (top ∷ sizes)
unfolding IsSplitRest minor_from weight_from
put_before sums cs c from len top r sizes full room of = record {
  rest = (full, of.rest);
  slots = (let e = of.slots in omega arith);
  weighs = (let e = of.weighs in omega arith);
}

module _ (sums cs : List ℕ) (c from len top : ℕ) (old : Option ℕ) (before : IsCellBelow sums (c ∷ cs) from len top old) where
  -- what was reached below is reached
  stays : (w : ℕ) → old ≡ Some w → (sizes : List ℕ) × (slice_index sizes 0 < top + 1) × IsRestOf sums (c ∷ cs) from len w sizes
  stays w e = let r = before.reached w e in (r.0, (let low = r.1 in omega arith), r.2)

  -- a size whose chunk doesn't fit reaches nothing
  pub skipped : len < chunk_slots c top → IsCellBelow sums (c ∷ cs) from len (top + 1) old
  skipped over = record {
    reached = stays;
    least = λ sizes below rest slots. by sizes rest slots (taken sums cs c from len top sizes below rest slots);
  }
    where
      by : (sizes : List ℕ) → IsSplitRest sums (c ∷ cs) from sizes → minor_from (c ∷ cs) sizes ≡ len → (slice_index sizes 0 < top) ⊎ IsTaken sums cs c from len top sizes
          → (weight : ℕ) × (old ≡ Some weight) × (weight ≤ weight_from sums (c ∷ cs) from sizes)
      by sizes rest slots (inl low) = before.least sizes low rest slots
      by sizes rest slots (inr t) = absurd (let room = t.room in omega arith)

-- A size whose chunk fits reaches what the disks after it reach in the slots that are left.
pub stepped : (sums cs : List ℕ) (c from len top : ℕ) (old next : Option ℕ) → IsCellBelow sums (c ∷ cs) from len top old → 1 ≤ top → chunk_slots c top ≤ len
    → IsCell sums cs (from + top) (len - chunk_slots c top) next → IsCellBelow sums (c ∷ cs) from len (top + 1) (lesser_weight_with old next (c * rates_from sums from top))
stepped sums cs c from len top old None before full room after = record {
  reached = stays sums cs c from len top old before;
  least = λ sizes below rest slots. by sizes rest slots (taken sums cs c from len top sizes below rest slots);
}
  where
    by : (sizes : List ℕ) → IsSplitRest sums (c ∷ cs) from sizes → minor_from (c ∷ cs) sizes ≡ len → (slice_index sizes 0 < top) ⊎ IsTaken sums cs c from len top sizes
        → (weight : ℕ) × (old ≡ Some weight) × (weight ≤ weight_from sums (c ∷ cs) from sizes)
    by sizes rest slots (inl low) = before.least sizes low rest slots
    by sizes rest slots (inr t) = let found = after.least t.tail t.rest t.slots in absurd (none-some found.0 found.1)
stepped sums cs c from len top None (Some r) before full room after = record {
  reached = λ w e. let found = after.reached r refl in
      (top ∷ found.0, (omega arith), subst (λ n. IsRestOf sums (c ∷ cs) from len n (top ∷ found.0)) (same_Some _ w e) (put_before sums cs c from len top r found.0 full room found.1));
  least = λ sizes below rest slots. by sizes rest slots (taken sums cs c from len top sizes below rest slots);
}
  where
    by : (sizes : List ℕ) → IsSplitRest sums (c ∷ cs) from sizes → minor_from (c ∷ cs) sizes ≡ len → (slice_index sizes 0 < top) ⊎ IsTaken sums cs c from len top sizes
        → (weight : ℕ) × (◌≡◌ {A = Option ℕ} (Some (r + c * rates_from sums from top)) (Some weight)) × (weight ≤ weight_from sums (c ∷ cs) from sizes)
    by sizes rest slots (inl low) = let found = before.least sizes low rest slots in absurd (none-some found.0 found.1)
    by sizes rest slots (inr t) =
        let found = after.least t.tail t.rest t.slots in let is = same_Some r found.0 found.1 in let weighs = t.weighs in let most = found.2 in
        (r + c * rates_from sums from top, refl, omega arith)
stepped sums cs c from len top (Some a) (Some r) before full room after = record {
  reached = λ w e. reach w (same_Some _ w e) (cases_lt a (r + c * rates_from sums from top));
  least = λ sizes below rest slots. by sizes rest slots (taken sums cs c from len top sizes below rest slots);
}
  where
    reach : (w : ℕ) → min a (r + c * rates_from sums from top) ≡ w → (a < r + c * rates_from sums from top) ⊎ (r + c * rates_from sums from top ≤ a)
        → (sizes : List ℕ) × (slice_index sizes 0 < top + 1) × IsRestOf sums (c ∷ cs) from len w sizes
    reach w is (inl less) = let e : a ≡ w = omega arith in stays sums cs c from len top (Some a) before w (ap Some e)
    reach w is (inr more) =
        let e : r + c * rates_from sums from top ≡ w = omega arith in let found = after.reached r refl in
        (top ∷ found.0, (omega arith), subst (λ n. IsRestOf sums (c ∷ cs) from len n (top ∷ found.0)) e (put_before sums cs c from len top r found.0 full room found.1))

    by : (sizes : List ℕ) → IsSplitRest sums (c ∷ cs) from sizes → minor_from (c ∷ cs) sizes ≡ len → (slice_index sizes 0 < top) ⊎ IsTaken sums cs c from len top sizes
        → (weight : ℕ) × (◌≡◌ {A = Option ℕ} (Some (min a (r + c * rates_from sums from top))) (Some weight)) × (weight ≤ weight_from sums (c ∷ cs) from sizes)
    by sizes rest slots (inl low) =
        let found = before.least sizes low rest slots in let is = same_Some a found.0 found.1 in let most = found.2 in
        (min a (r + c * rates_from sums from top), refl, omega arith)
    by sizes rest slots (inr t) =
        let found = after.least t.tail t.rest t.slots in let is = same_Some r found.0 found.1 in let weighs = t.weighs in let most = found.2 in
        (min a (r + c * rates_from sums from top), refl, omega arith)

-- No size is greater than the number of items that are left.
pub all_below : (sums cs : List ℕ) (c from len top : ℕ) (cell : Option ℕ) → length sums ≤ from + top → IsCellBelow sums (c ∷ cs) from len top cell → IsCell sums (c ∷ cs) from len cell
unfolding IsSplitRest
all_below sums cs c from len top cell over below = record {
  reached = λ w e. let r = below.reached w e in (r.0, r.2);
  least = λ sizes rest slots. below.least sizes (low sizes rest) rest slots;
}
  where
    low : (sizes : List ℕ) → IsSplitRest sums (c ∷ cs) from sizes → slice_index sizes 0 < top
    low [] rest = absurd rest
    low (s ∷ ss) rest = let within = rest_within sums cs (from + s) ss rest.1 in omega arith

-- ---- no disk
pub last_none : (sums : List ℕ) (from len : ℕ) → (from + 1 ≡ length sums → ⊥) → IsCell sums [] from len None
unfolding IsSplitRest
last_none sums from len other = record { reached = λ w e. absurd (none-some w e); least = λ sizes rest slots. absurd (none sizes rest) }
  where
    none : (sizes : List ℕ) → IsSplitRest sums [] from sizes → ⊥
    none [] rest = other rest
    none (s ∷ ss) rest = rest

pub last_later : (sums : List ℕ) (from len : ℕ) → 0 < len → IsCell sums [] from len None
unfolding minor_from
last_later sums from len more = record { reached = λ w e. absurd (none-some w e); least = λ sizes rest slots. absurd (let e : 0 ≡ len = slots in omega arith) }

pub last_zero : (sums : List ℕ) (from : ℕ) → from + 1 ≡ length sums → IsCell sums [] from 0 (Some 0)
unfolding IsSplitRest minor_from weight_from
last_zero sums from last = record {
  reached = λ w e. ([], record { rest = last; slots = refl; weighs = same_Some 0 w e });
  least = λ sizes rest slots. (0, refl, omega arith);
}
