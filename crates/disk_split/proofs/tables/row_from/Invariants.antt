use Rattle.std.proofs.Common.{◌≡◌, ◌-◌, length, min}
use Rattle.disk_split.proofs.TableSteps.{HaveCellsBelow}
use Rattle.disk_split.proofs.tables.row_from.Given as goal

abbrev pub invariant-loop-size : goal.invariant-loop-size
invariant-loop-size l = record {
  wide : length l.cells.items ≡ min l.width (length l.sums - l.from);
  cells : HaveCellsBelow l.sums l.chunks l.from l.size l.cells.items;
}
