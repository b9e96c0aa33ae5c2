-- For private steps only. What contracts see of the news that the two sides take in.
use Rattle.std.specs.Prelude.{ℕ, List}
use Rattle.air_history.specs.declared.histories.Event.{Event}
use Rattle.cycle_snapshot.specs.Beginnings.{Beginning}

-- A batch, the number of items that it is for, and the list that ends with it.
pub record NewsState : Type 0 where
  pub batch : List Event
  pub items : ℕ
  pub list : Beginning
