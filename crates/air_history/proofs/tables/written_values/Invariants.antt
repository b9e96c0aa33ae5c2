use Rattle.std.proofs.Common.{◌≡◌, ℕ, ◌<◌, length, get_or}
use Rattle.air_base.specs.declared.limits.TheConstants.{MOST_WRITES}
use Rattle.air_history.specs.declared.updates.Write.{Write}
use Rattle.air_history.specs.Tables.{value_of_write, values_of}
use Rattle.air_history.proofs.tables.written_values.Given as goal

abbrev pub invariant-loop-k : goal.invariant-loop-k
invariant-loop-k l = record {
  sized : length l.fresh ≡ MOST_WRITES;
  done : (j : ℕ) (d : Write) → j < l.k → get_or l.fresh j 0 ≡ value_of_write (values_of l.values) (get_or l.writes j d);
}
