-- What each kernel gives for two lists of equal length: one definition each.
use Rattle.std.specs.Prelude.{◌≤◌, ◌<◌, ◌==◌, ℕ, List, Option, length, max, slice_index, if◌then◌else◌, EachIndex, MatchOption}
use Rattle.std.specs.Simd.Lanes.{zip2}

-- The greater of the two entries at each place.
abbrev pub greater_of_each : List ℕ → List ℕ → List ℕ
greater_of_each xs ys = zip2 max xs ys

-- The cycle at each place whose mark isn't 0, and the old entry at the others.
abbrev pub stamp_each : ℕ → List ℕ → List ℕ → List ℕ
stamp_each cycle marks xs = zip2 (λ mark x. if mark == 0 then x else cycle) marks xs

-- At this place the column isn't below what is held; at each place before it the column is below.
pub record IsFirstNotBelow (column held : List ℕ) (place : ℕ) : Type 0 where
  pub within : place < length column
  pub reached : slice_index held place ≤ slice_index column place
  pub before : (k : ℕ) → k < place → slice_index column k < slice_index held k

-- The answer is the first place at which the column isn't below what is held, and None if and only if there is no such place.
abbrev pub IsSearchAnswer : List ℕ → List ℕ → Option ℕ → Type 0
IsSearchAnswer column held answer = MatchOption answer (EachIndex column (λ k. slice_index column k < slice_index held k)) (IsFirstNotBelow column held)
