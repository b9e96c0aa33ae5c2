use Rattle.std.proofs.Common.{◌++◌, ◌∷◌, ◌+◌, [], ap, sym, ◌∙◌}
use Rattle.air_report.proofs.MadeReports.{row_more}
use Rattle.air_report.proofs.reading.rows_from.Goals as goal

pub loop-place-preserved : goal.loop-place-preserved
loop-place-preserved c =
    c.in_ok-push.ensures.items ∙ ap (λ rs. rs ++ (c.args.first + c.loop-place.place) ∷ []) c.loop-place.invariant ∙ sym (row_more c.args.first c.loop-place.place)
