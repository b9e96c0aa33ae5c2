-- The two judges of a receiver's reads: the history, and the entries that were heard. The history sees of a read only its item
-- and its cycle, so it uses no column, vector or heard value.
use Rattle.std.specs.Prelude.{ℕ, List, map, Option}
use Rattle.air_base.specs.declared.verdicts.Clash.{Clash}
use Rattle.air_history.specs.declared.histories.Event.{Event}
use Rattle.air_history.specs.Columns.{Scheme}
use Rattle.air_history.specs.Reads.{ReadAt, read_value}
use Rattle.air_history.specs.Tables.{values_of}
use Rattle.air_history.specs.Clashes.{HeardRead, clash_by_entries, clash_of}
use Rattle.air_model.specs.Reads.{Read}

-- A judge says the value of a read, and the held read with which a new one clashes.
pub record Judge : Type 0 where
  pub value : Read → ℕ
  pub clash : List Read → Read → Option Clash

-- What the history sees of a read: its item and its cycle.
abbrev pub place_of : Read → ReadAt
place_of r = record { item = r.item; cycle = r.cycle }

-- What the entries show of a read: its item, its cycle and its entries.
abbrev pub heard_of : Read → HeardRead
heard_of r = record { item = r.item; cycle = r.cycle; entries = r.entries }

-- The judge by the history: it judges reads of n items by origins, and takes values from the history's tables.
unfoldable pub by_history : Scheme → ℕ → List ℕ → List Event → Judge
by_history scheme n values H = record {
  value = λ r. read_value (values_of values) H (place_of r);
  clash = λ R x. clash_of scheme n H (map place_of R) (place_of x);
}

-- The judge by the entries: it judges by the cycles in them, and takes the heard values.
unfoldable pub by_entries : Scheme → Judge
by_entries scheme = record {
  value = λ r. r.value;
  clash = λ R x. clash_by_entries scheme.policy (map heard_of R) (heard_of x);
}
