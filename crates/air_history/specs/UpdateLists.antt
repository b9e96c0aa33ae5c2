-- What contracts see of an update: the items that it reads, and its writes, each list in order.
use Rattle.std.specs.Prelude.{ℕ, List}
use Rattle.air_history.specs.declared.updates.Write.{Write}

-- The reads and the writes of an update.
pub record UpdateLists : Type 0 where
  pub reads : List ℕ
  pub writes : List Write
