-- A batch: what is published at one step.
use Rattle.std.specs.Prelude.{◌≡◌, ℕ, List, [], ◌∷◌, ◌++◌, All}
use Rattle.air_history.specs.declared.histories.Event.{Event}
use Rattle.air_history.specs.declared.histories.Event.TheVariants.{Start}
use Rattle.air_history.specs.Histories.{starts, ItemsFit}

-- The events of one cycle: their items are below n, and the last of them is their one start.
pub record IsBatch (n : ℕ) (batch : List Event) : Type 0 where
  pub fits : All (ItemsFit n) batch
  pub ends : (commits : List Event) × (batch ≡ commits ++ Start ∷ []) × (starts commits ≡ 0)
