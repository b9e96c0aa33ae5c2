-- For private steps alone. The best sizes among those whose minor cycles have fewer slots than a number.
use Rattle.std.specs.Prelude.{◌≡◌, ◌≤◌, ◌<◌, ◌==◌, ◌&&◌, ◌||◌, ℕ, ◌*◌, Bool, false, Option, Some, None, List, nat_lt, if◌then◌else◌}
use Rattle.disk_split.specs.declared.search.BestSizes.{BestSizes}
use Rattle.disk_split.specs.Splits.{is_before}
use Rattle.disk_split.specs.Rests.{IsSplitRest, minor_from, weight_from}

-- What sizes for all disks cost.
abbrev pub cost_from : List ℕ → List ℕ → List ℕ → ℕ
cost_from sums chunks sizes = minor_from chunks sizes * weight_from sums chunks 0 sizes

-- The sizes have this cost, none costs less, and none of the same cost comes first.
pub record IsBestBelow (sums chunks : List ℕ) (top cost : ℕ) (sizes : List ℕ) : Type 0 where
  pub rest : IsSplitRest sums chunks 0 sizes
  pub short : minor_from chunks sizes < top
  pub costs : cost_from sums chunks sizes ≡ cost
  pub least : (other : List ℕ) → IsSplitRest sums chunks 0 other → minor_from chunks other < top → cost ≤ cost_from sums chunks other
  pub first : (other : List ℕ) → IsSplitRest sums chunks 0 other → minor_from chunks other < top → cost_from sums chunks other ≡ cost → is_before other sizes ≡ false

-- What was found is the best, and nothing was found if there are no such sizes.
abbrev pub IsFound : List ℕ → List ℕ → ℕ → Option BestSizes → Type 0
IsFound sums chunks top None = (other : List ℕ) → IsSplitRest sums chunks 0 other → minor_from chunks other < top → ⊥
IsFound sums chunks top (Some found) = IsBestBelow sums chunks top found.cost found.sizes

-- Of two, the better one costs less or, at the same cost, comes first.
abbrev pub is_better : BestSizes → BestSizes → Bool
is_better new old = nat_lt new.cost old.cost || ((new.cost == old.cost) && is_before new.sizes old.sizes)

-- The better of what was found before, if anything was, and what is found now.
abbrev pub better : Option BestSizes → BestSizes → BestSizes
better None new = new
better (Some old) new = if is_better new old then new else old
