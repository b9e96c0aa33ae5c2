use Rattle.std.proofs.Common.{◌≡◌, ◌++◌, map, take}
use Rattle.std.specs.List.{enumerate_from}
use Rattle.air_model.specs.Decks.{disks_in, rates_in}
use Rattle.air_model.specs.PlanTexts.{item_row}
use Rattle.air_model.specs.Rows.{rows_text}
use Rattle.air_report.specs.RowWriters.{IsRowWriter, written_text}
use Rattle.air_cli.proofs.commands.plan.rows.put_items.Given as goal

abbrev pub invariant-loop-i : goal.invariant-loop-i
invariant-loop-i l =
    IsRowWriter l.wtr × (written_text l.wtr ≡ written_text l.fn.wtr ++ rows_text (map (item_row (disks_in l.planned l.edition)) (take l.i (enumerate_from 0 (rates_in l.planned)))))
