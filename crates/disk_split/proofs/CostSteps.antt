-- The cost of sizes, one disk on: its chunk within, its rates within, and what it adds.
use Rattle.std.proofs.Common.{◌≡◌, ◌≤◌, ◌<◌, ◌⊎◌, inl, inr, ◌+◌, ◌*◌, ◌^◌, ℕ, List, [], ◌∷◌, drop, length, get_or, refl, sym, subst, ap, ◌∙◌, arith}
use Rattle.std.proofs.lemmas.Bool.{cases_lt}
use Rattle.std.proofs.lemmas.List.{drop_all, drop_more}
use Rattle.std.proofs.lemmas.List.Elements.{All-get_or}
use Rattle.air_base.specs.declared.limits.TheConstants.{MOST_SLOTS}
use Rattle.disk_split.specs.Rests.{AreChunks, AreSums, IsSplitRest, chunk_slots, minor_from, rates_from, weight_from}
use Rattle.disk_split.proofs.RestLemmas.{rest_within}
use Rattle.disk_split.proofs.TableSteps.{product_small}

module _ (sums cs sizes : List ℕ) (from disk size : ℕ) (rest : IsSplitRest sums (drop disk cs) from (drop disk sizes)) (below : disk < length sizes) (is : size ≡ get_or sizes disk 0) where
  own : drop disk sizes ≡ size ∷ drop (disk + 1) sizes
  own = drop_more sizes disk 0 below ∙ ap (λ s. s ∷ drop (disk + 1) sizes) (sym is)

  pub chunk_within : disk < length cs
  unfolding IsSplitRest
  chunk_within = by (cases_lt disk (length cs))
    where
      by : ((disk < length cs) ⊎ (length cs ≤ disk)) → disk < length cs
      by (inl less) = less
      by (inr over) = absurd (subst (λ l. IsSplitRest sums l from (size ∷ drop (disk + 1) sizes)) (drop_all disk cs over) (subst (IsSplitRest sums (drop disk cs) from) own rest))

  chunk : drop disk cs ≡ get_or cs disk 0 ∷ drop (disk + 1) cs
  chunk = drop_more cs disk 0 chunk_within

  both : (1 ≤ size) × IsSplitRest sums (drop (disk + 1) cs) (from + size) (drop (disk + 1) sizes)
  unfolding IsSplitRest
  both = subst (λ l. IsSplitRest sums l from (size ∷ drop (disk + 1) sizes)) chunk (subst (IsSplitRest sums (drop disk cs) from) own rest)

  pub next_rest : IsSplitRest sums (drop (disk + 1) cs) (from + size) (drop (disk + 1) sizes)
  next_rest = both.1

  pub end_within : from + size < length sums
  end_within = rest_within sums (drop (disk + 1) cs) (from + size) (drop (disk + 1) sizes) next_rest

  pub next_minor : minor_from (drop disk cs) (drop disk sizes) ≡ chunk_slots (get_or cs disk 0) size + minor_from (drop (disk + 1) cs) (drop (disk + 1) sizes)
  unfolding minor_from
  next_minor = ap (λ l. minor_from l (drop disk sizes)) chunk ∙ ap (minor_from (get_or cs disk 0 ∷ drop (disk + 1) cs)) own

  pub next_weight : weight_from sums (drop disk cs) from (drop disk sizes) ≡ get_or cs disk 0 * rates_from sums from size + weight_from sums (drop (disk + 1) cs) (from + size) (drop (disk + 1) sizes)
  unfolding weight_from
  next_weight = ap (λ l. weight_from sums l from (drop disk sizes)) chunk ∙ ap (weight_from sums (get_or cs disk 0 ∷ drop (disk + 1) cs) from) own

  module _ (are : AreSums sums) (cut : AreChunks cs) where
    pub chunk_some : 1 ≤ get_or cs disk 0
    chunk_some = All-get_or (λ c. 1 ≤ c) cs disk 0 chunk_within cut.some

    pub own_weight_small : get_or cs disk 0 * rates_from sums from size < 2 ^ 46
    own_weight_small = product_small (get_or cs disk 0) (rates_from sums from size) (All-get_or (λ c. c ≤ MOST_SLOTS) cs disk 0 chunk_within cut.few) (let small = are.small (from + size) in omega arith)

-- What is left once all disks are walked.
pub nothing_left : (sums cs sizes : List ℕ) (from disk : ℕ) → length sizes ≤ disk → IsSplitRest sums (drop disk cs) from (drop disk sizes)
    → (minor_from (drop disk cs) (drop disk sizes) ≡ 0) × (weight_from sums (drop disk cs) from (drop disk sizes) ≡ 0)
unfolding minor_from weight_from
nothing_left sums cs sizes from disk over rest = subst (λ l. (minor_from (drop disk cs) l ≡ 0) × (weight_from sums (drop disk cs) from l ≡ 0)) (sym (drop_all disk sizes over)) (by (drop disk cs))
  where
    by : (l : List ℕ) → (minor_from l [] ≡ 0) × (weight_from sums l from [] ≡ 0)
    by [] = (refl, refl)
    by (c ∷ cs) = (refl, refl)
