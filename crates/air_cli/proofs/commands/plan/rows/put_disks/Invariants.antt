use Rattle.std.proofs.Common.{◌≡◌, ◌++◌, map, take}
use Rattle.std.specs.List.{enumerate_from}
use Rattle.air_model.specs.Decks.{disks_in}
use Rattle.air_model.specs.Programs.{num_minors}
use Rattle.air_model.specs.PlanTexts.{disk_row}
use Rattle.air_model.specs.Rows.{rows_text}
use Rattle.air_report.specs.RowWriters.{IsRowWriter, written_text}
use Rattle.air_cli.proofs.commands.plan.rows.put_disks.Given as goal

abbrev pub invariant-loop-d : goal.invariant-loop-d
invariant-loop-d l =
    IsRowWriter l.wtr × (written_text l.wtr ≡ written_text l.fn.wtr ++ rows_text (map (disk_row (num_minors (disks_in l.planned l.edition))) (take l.d (enumerate_from 0 (disks_in l.planned l.edition)))))
