use Rattle.std.proofs.Common.{◌++◌, ap, ◌∙◌}
use Rattle.air_model.specs.Decks.{rates_in}
use Rattle.air_model.specs.PlanTexts.{edition_rows}
use Rattle.air_model.specs.Rows.{rows_text}
use Rattle.air_report.specs.RowWriters.{written_text}
use Rattle.air_cli.proofs.PlanLemmas.{plan_text_is}
use Rattle.air_cli.proofs.commands.plan.texts.plan_text.Goals as goal

pub returns : goal.returns
returns c =
    let d = c.args.planned.now in
    let empty = c.row_writer-wtr.ensures.text ∙ c.new.ensures.items in
    c.in_ok-text.ensures ∙ plan_text_is d (written_text c.put_edition.new.wtr) (written_text c.put_replans.new.wtr)
    (c.in_ok-put_edition.ensures.text ∙ ap (λ t. t ++ rows_text (edition_rows (rates_in d) d.disks)) empty) c.in_ok-put_replans.ensures.text
