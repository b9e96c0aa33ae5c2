use Rattle.std.proofs.Common.{◌≡◌, nat_le}
use Rattle.std.specs.List.{list_all}
use Rattle.air_index.specs.Indexes.{index_entries}
use Rattle.air_index.proofs.index_view.lie_ahead.Given as goal

abbrev pub invariant-loop-i : goal.invariant-loop-i
invariant-loop-i l = l.ahead ≡ list_all (nat_le 1) (index_entries l.i l.bytes)
