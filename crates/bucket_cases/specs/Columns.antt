-- What a player tests before it writes a column.
use Rattle.std.specs.Prelude.{◌<◌, ◌≤◌, ℕ, List, length, All}
use Rattle.air_model.specs.Buckets.{most_count}

-- A column of this version, cycle, item and these true entries can be aired.
pub record IsColumn (version cycle item : ℕ) (entries : List ℕ) : Type 0 where
  pub first : 1 ≤ version
  pub last : version ≤ 2
  pub started : 1 ≤ cycle
  pub count : length entries ≤ most_count version
  pub placed : item < length entries
  pub below : All (λ e. e < cycle) entries
