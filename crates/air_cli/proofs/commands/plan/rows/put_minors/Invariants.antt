use Rattle.std.proofs.Common.{◌≡◌, ◌++◌, map, take}
use Rattle.std.specs.List.{range_with_len}
use Rattle.air_model.specs.Programs.{num_minors}
use Rattle.air_model.specs.PlanTexts.{minor_row}
use Rattle.air_model.specs.Rows.{rows_text}
use Rattle.air_report.specs.RowWriters.{IsRowWriter, written_text}
use Rattle.air_cli.proofs.commands.plan.rows.put_minors.Given as goal

abbrev pub invariant-loop-k : goal.invariant-loop-k
invariant-loop-k l =
    IsRowWriter l.wtr × (written_text l.wtr ≡ written_text l.fn.wtr ++ rows_text (map (minor_row l.program.disks) (take l.k (range_with_len 0 (num_minors l.program.disks)))))
