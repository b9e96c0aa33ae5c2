-- The best sizes, one number of slots on: those of least weight that come first join, and the better of two is kept.
use Rattle.std.proofs.Common.{◌≡◌, ◌≤◌, ◌<◌, ◌⊎◌, inl, inr, ◌+◌, ◌*◌, ◌==◌, ℕ, suc, Bool, true, false, Option, Some, None, List, refl, sym, subst, ap, ◌∙◌, arith}
use Rattle.std.specs.Prelude.{◌&&◌, ◌||◌, if◌then◌else◌, nat_lt}
use Rattle.std.proofs.Math.Nat.{mul-le-mul_left}
use Rattle.std.proofs.lemmas.Bool.{cases_lt}
use Rattle.std.proofs.lemmas.Bool.Decides.{nat_tests}
use Rattle.std.proofs.lemmas.Option.{none-some, same_Some}
use Rattle.disk_split.specs.declared.search.BestSizes.{BestSizes}
use Rattle.disk_split.specs.Splits.{is_before}
use Rattle.disk_split.specs.Private.Bests.{IsBestBelow, IsFound, better, cost_from, is_better}
use Rattle.disk_split.specs.Rests.{IsFirst, IsSplitRest, minor_from, weight_from}
use Rattle.disk_split.specs.Private.Tables.{IsCell}
use Rattle.disk_split.proofs.Orders.{before_not, not_before}

same_factor : (k a b : ℕ) → 0 < k → k * a ≡ k * b → a ≡ b
same_factor k a b some e = by (cases_lt a b) (cases_lt b a)
  where
    by : ((a < b) ⊎ (b ≤ a)) → ((b < a) ⊎ (a ≤ b)) → a ≡ b
    by (inl less) o = absurd (let grows : k * suc a ≤ k * b = mul-le-mul_left k less in let next : k * suc a ≡ k * a + k = omega arith in omega arith)
    by (inr o) (inl less) = absurd (let grows : k * suc b ≤ k * a = mul-le-mul_left k less in let next : k * suc b ≡ k * b + k = omega arith in omega arith)
    by (inr p) (inr q) = omega arith

-- ---- what the sizes of one number of slots are among all of those
module _ (sums cs : List ℕ) (slots weight : ℕ) (sizes : List ℕ) (some : 0 < slots) (cell : IsCell sums cs 0 slots (Some weight)) (first : IsFirst sums cs 0 slots weight sizes) where
  pub own_cost : cost_from sums cs sizes ≡ slots * weight
  own_cost = ap (λ n. n * weight_from sums cs 0 sizes) first.is.slots ∙ ap (λ n. slots * n) first.is.weighs

  pub own_least : (other : List ℕ) → IsSplitRest sums cs 0 other → minor_from cs other ≡ slots → slots * weight ≤ cost_from sums cs other
  own_least other rest long =
      let low = cell.least other rest long in let is = same_Some weight low.0 low.1 in let most = low.2 in
      let up : weight ≤ weight_from sums cs 0 other = omega arith in
      let grows : slots * weight ≤ slots * weight_from sums cs 0 other = mul-le-mul_left slots up in
      rw long grows

  pub own_first : (other : List ℕ) → IsSplitRest sums cs 0 other → minor_from cs other ≡ slots → cost_from sums cs other ≡ slots * weight → is_before other sizes ≡ false
  own_first other rest long costs =
      first.first other (record { rest = rest; slots = long; weighs = same_factor slots (weight_from sums cs 0 other) weight some (ap (λ n. n * weight_from sums cs 0 other) (sym long) ∙ costs) })

  -- they are the best if nothing was found with fewer slots
  pub alone_best : ((other : List ℕ) → IsSplitRest sums cs 0 other → minor_from cs other < slots → ⊥) → IsBestBelow sums cs (slots + 1) (slots * weight) sizes
  alone_best none = record {
    rest = first.is.rest;
    short = (let e = first.is.slots in omega arith);
    costs = own_cost;
    least = λ other rest below. own_least other rest (just other rest below);
    first = λ other rest below costs. own_first other rest (just other rest below) costs;
  }
    where
      just : (other : List ℕ) → IsSplitRest sums cs 0 other → minor_from cs other < slots + 1 → minor_from cs other ≡ slots
      just other rest below = by (cases_lt (minor_from cs other) slots)
        where
          by : ((minor_from cs other < slots) ⊎ (slots ≤ minor_from cs other)) → minor_from cs other ≡ slots
          by (inl less) = absurd (none other rest less)
          by (inr more) = omega arith

  module _ (old : ℕ) (kept : List ℕ) (best : IsBestBelow sums cs slots old kept) where
    -- they are the best if they are better than what was found
    pub new_best : ((slots * weight < old) ⊎ ((slots * weight ≡ old) × (is_before sizes kept ≡ true))) → IsBestBelow sums cs (slots + 1) (slots * weight) sizes
    new_best up = record {
      rest = first.is.rest;
      short = (let e = first.is.slots in omega arith);
      costs = own_cost;
      least = λ other rest below. by other rest up (cases_lt (minor_from cs other) slots) below;
      first = λ other rest below costs. later other rest costs up (cases_lt (minor_from cs other) slots) below;
    }
      where
        by : (other : List ℕ) → IsSplitRest sums cs 0 other → ((slots * weight < old) ⊎ ((slots * weight ≡ old) × (is_before sizes kept ≡ true)))
            → ((minor_from cs other < slots) ⊎ (slots ≤ minor_from cs other)) → minor_from cs other < slots + 1 → slots * weight ≤ cost_from sums cs other
        by other rest (inl less) (inl short) below = let low = best.least other rest short in omega arith
        by other rest (inr same) (inl short) below = let low = best.least other rest short in let e = same.0 in omega arith
        by other rest o (inr long) below = own_least other rest (omega arith)

        later : (other : List ℕ) → IsSplitRest sums cs 0 other → cost_from sums cs other ≡ slots * weight → ((slots * weight < old) ⊎ ((slots * weight ≡ old) × (is_before sizes kept ≡ true)))
            → ((minor_from cs other < slots) ⊎ (slots ≤ minor_from cs other)) → minor_from cs other < slots + 1 → is_before other sizes ≡ false
        later other rest costs (inl less) (inl short) below = absurd (let low = best.least other rest short in omega arith)
        later other rest costs (inr same) (inl short) below = not_before sizes kept other (before_not sizes kept same.1) (best.first other rest short (costs ∙ same.0))
        later other rest costs o (inr long) below = own_first other rest (omega arith) costs

    -- what was found stays the best if they aren't better
    pub old_best : ((old < slots * weight) ⊎ ((slots * weight ≡ old) × (is_before sizes kept ≡ false))) → IsBestBelow sums cs (slots + 1) old kept
    old_best up = record {
      rest = best.rest;
      short = (let short = best.short in omega arith);
      costs = best.costs;
      least = λ other rest below. by other rest up (cases_lt (minor_from cs other) slots) below;
      first = λ other rest below costs. later other rest costs up (cases_lt (minor_from cs other) slots) below;
    }
      where
        by : (other : List ℕ) → IsSplitRest sums cs 0 other → ((old < slots * weight) ⊎ ((slots * weight ≡ old) × (is_before sizes kept ≡ false)))
            → ((minor_from cs other < slots) ⊎ (slots ≤ minor_from cs other)) → minor_from cs other < slots + 1 → old ≤ cost_from sums cs other
        by other rest o (inl short) below = best.least other rest short
        by other rest (inl less) (inr long) below = let low = own_least other rest (omega arith) in omega arith
        by other rest (inr same) (inr long) below = let low = own_least other rest (omega arith) in let e = same.0 in omega arith

        later : (other : List ℕ) → IsSplitRest sums cs 0 other → cost_from sums cs other ≡ old → ((old < slots * weight) ⊎ ((slots * weight ≡ old) × (is_before sizes kept ≡ false)))
            → ((minor_from cs other < slots) ⊎ (slots ≤ minor_from cs other)) → minor_from cs other < slots + 1 → is_before other kept ≡ false
        later other rest costs o (inl short) below = best.first other rest short costs
        later other rest costs (inl less) (inr long) below = absurd (let low = own_least other rest (omega arith) in omega arith)
        later other rest costs (inr same) (inr long) below = not_before kept sizes other same.1 (own_first other rest (omega arith) (costs ∙ sym same.0))

-- If they cost the same, their sizes decide.
pub level_cost : (new old : BestSizes) → old.cost ≤ new.cost → new.cost ≡ old.cost → is_before new.sizes old.sizes ≡ is_better new old
level_cost new old more same = by (is_before new.sizes old.sizes)
  where
    by : (b : Bool) → b ≡ (nat_lt new.cost old.cost || ((new.cost == old.cost) && b))
    by true = grind (arith, nat_tests)
    by false = grind (arith, nat_tests)

-- Which of two is better.
better_or_not : (new old : BestSizes) → (b : Bool) → is_better new old ≡ b
    → ((b ≡ true) × ((new.cost < old.cost) ⊎ ((new.cost ≡ old.cost) × (is_before new.sizes old.sizes ≡ true))))
    ⊎ ((b ≡ false) × ((old.cost < new.cost) ⊎ ((new.cost ≡ old.cost) × (is_before new.sizes old.sizes ≡ false))))
better_or_not new old b e = by (cases_lt new.cost old.cost) (cases_lt old.cost new.cost) (is_before new.sizes old.sizes) refl b e
  where
    by : ((new.cost < old.cost) ⊎ (old.cost ≤ new.cost)) → ((old.cost < new.cost) ⊎ (new.cost ≤ old.cost)) → (c : Bool) → is_before new.sizes old.sizes ≡ c → (b : Bool) → is_better new old ≡ b
        → ((b ≡ true) × ((new.cost < old.cost) ⊎ ((new.cost ≡ old.cost) × (is_before new.sizes old.sizes ≡ true))))
        ⊎ ((b ≡ false) × ((old.cost < new.cost) ⊎ ((new.cost ≡ old.cost) × (is_before new.sizes old.sizes ≡ false))))
    by (inl less) o c f true e = inl (refl, inl less)
    by (inl less) o c f false e = absurd (grind (arith, nat_tests))
    by (inr o) (inl more) c f true e = absurd (grind (arith, nat_tests))
    by (inr o) (inl more) c f false e = inr (refl, inl more)
    by (inr o) (inr p) true f true e = inl (refl, inr (omega arith, f))
    by (inr o) (inr p) false f true e = absurd (grind (arith, nat_tests))
    by (inr o) (inr p) true f false e = absurd (grind (arith, nat_tests))
    by (inr o) (inr p) false f false e = inr (refl, inr (omega arith, f))

-- One number of slots on, if some sizes have exactly that number.
pub found_more : (sums cs : List ℕ) (slots weight : ℕ) (best : Option BestSizes) (new : BestSizes) → 0 < slots → new.cost ≡ slots * weight → IsCell sums cs 0 slots (Some weight)
    → IsFirst sums cs 0 slots weight new.sizes → IsFound sums cs slots best → IsFound sums cs (slots + 1) (Some (better best new))
found_more sums cs slots weight None new some costs cell first found =
    subst (λ n. IsBestBelow sums cs (slots + 1) n new.sizes) (sym costs) (alone_best sums cs slots weight new.sizes some cell first found)
found_more sums cs slots weight (Some old) new some costs cell first found = by (is_better new old) (better_or_not new old (is_better new old) refl)
  where
    by : (b : Bool)
        → ((b ≡ true) × ((new.cost < old.cost) ⊎ ((new.cost ≡ old.cost) × (is_before new.sizes old.sizes ≡ true))))
        ⊎ ((b ≡ false) × ((old.cost < new.cost) ⊎ ((new.cost ≡ old.cost) × (is_before new.sizes old.sizes ≡ false))))
        → IsFound sums cs (slots + 1) (Some (if b then new else old))
    by true (inl up) =
        subst (λ n. IsBestBelow sums cs (slots + 1) n new.sizes) (sym costs)
        (new_best sums cs slots weight new.sizes some cell first old.cost old.sizes found (subst (λ n. (n < old.cost) ⊎ ((n ≡ old.cost) × (is_before new.sizes old.sizes ≡ true))) costs up.1))
    by true (inr up) = absurd (cc up.0)
    by false (inl up) = absurd (cc up.0)
    by false (inr up) =
        old_best sums cs slots weight new.sizes some cell first old.cost old.sizes found (subst (λ n. (old.cost < n) ⊎ ((n ≡ old.cost) × (is_before new.sizes old.sizes ≡ false))) costs up.1)

-- One number of slots on, if no sizes have exactly that number.
pub found_none : (sums cs : List ℕ) (slots : ℕ) (best : Option BestSizes) → IsCell sums cs 0 slots None → IsFound sums cs slots best → IsFound sums cs (slots + 1) best
found_none sums cs slots best cell found = by best found
  where
    still : (other : List ℕ) → IsSplitRest sums cs 0 other → minor_from cs other < slots + 1 → minor_from cs other < slots
    still other rest below = cases (cases_lt (minor_from cs other) slots)
      where
        cases : ((minor_from cs other < slots) ⊎ (slots ≤ minor_from cs other)) → minor_from cs other < slots
        cases (inl less) = less
        cases (inr more) = absurd (let low = cell.least other rest (omega arith) in none-some low.0 low.1)

    by : (best : Option BestSizes) → IsFound sums cs slots best → IsFound sums cs (slots + 1) best
    by None found = λ other rest below. found other rest (still other rest below)
    by (Some old) found = record {
      rest = found.rest;
      short = (let short = found.short in omega arith);
      costs = found.costs;
      least = λ other rest below. found.least other rest (still other rest below);
      first = λ other rest below costs. found.first other rest (still other rest below) costs;
    }
