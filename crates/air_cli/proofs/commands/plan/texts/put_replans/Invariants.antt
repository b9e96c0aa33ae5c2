use Rattle.std.proofs.Common.{◌≡◌, ◌++◌, take}
use Rattle.std.specs.List.{enumerate_from, flat_map}
use Rattle.air_model.specs.Decks.{rates_in}
use Rattle.air_model.specs.PlanTexts.{replan_rows}
use Rattle.air_model.specs.Rows.{rows_text}
use Rattle.air_report.specs.RowWriters.{IsRowWriter, written_text}
use Rattle.air_cli.proofs.commands.plan.texts.put_replans.Given as goal

abbrev pub invariant-loop-k : goal.invariant-loop-k
invariant-loop-k l =
    IsRowWriter l.wtr × (written_text l.wtr ≡ written_text l.fn.wtr ++ rows_text (flat_map (replan_rows (rates_in l.planned)) (take l.k (enumerate_from 1 l.planned.replans))))
