-- The kernels' definitions on short lists, computed, and what they refuse.
use Rattle.std.proofs.Common.{◌≡◌, ◌<◌, ℕ, zero, suc, List, Some, None, [], ◌∷◌, get_or, refl, arith}
use Rattle.air_lanes.specs.Kernels.{greater_of_each, stamp_each, IsSearchAnswer}

the_greater_of_two_rows : greater_of_each (3 ∷ 0 ∷ 7 ∷ []) (1 ∷ 5 ∷ 7 ∷ []) ≡ 3 ∷ 5 ∷ 7 ∷ []
the_greater_of_two_rows = refl

rows_without_a_place : ◌≡◌ {A = List ℕ} (greater_of_each [] []) []
rows_without_a_place = refl

any_mark_but_zero : stamp_each 9 (0 ∷ 1 ∷ 4294967295 ∷ 0 ∷ []) (5 ∷ 6 ∷ 7 ∷ 8 ∷ []) ≡ 5 ∷ 9 ∷ 9 ∷ 8 ∷ []
any_mark_but_zero = refl

-- An entry that is equal isn't below, and the first such place is the answer.
equal_is_not_below : IsSearchAnswer (1 ∷ 4 ∷ 9 ∷ []) (2 ∷ 4 ∷ 3 ∷ []) (Some 1)
equal_is_not_below = record {
  within = omega arith;
  reached = omega arith;
  before = by;
}
  where
    by : (k : ℕ) → k < 1 → get_or (1 ∷ 4 ∷ 9 ∷ []) k 0 < get_or (2 ∷ 4 ∷ 3 ∷ []) k 0
    by zero l = omega arith
    by (suc k) l = absurd (omega arith)

-- A later place isn't the answer.
later_is_not_first : IsSearchAnswer (1 ∷ 4 ∷ 9 ∷ []) (2 ∷ 4 ∷ 3 ∷ []) (Some 2) → ⊥
later_is_not_first first = let below : 4 < 4 = first.before 1 (omega arith) in omega arith

-- None is the answer if the column is below everywhere.
below_everywhere : IsSearchAnswer (1 ∷ 3 ∷ []) (2 ∷ 4 ∷ []) None
below_everywhere zero l = omega arith
below_everywhere (suc zero) l = omega arith
below_everywhere (suc (suc k)) l = absurd (omega arith)
