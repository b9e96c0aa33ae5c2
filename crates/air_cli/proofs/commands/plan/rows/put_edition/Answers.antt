use Rattle.std.proofs.Common.{◌++◌, ap, map, ◌∙◌}
use Rattle.std.specs.List.{range_with_len}
use Rattle.csv.specs.Writing.{row_text}
use Rattle.air_model.specs.Decks.{disks_in, rates_in}
use Rattle.air_model.specs.PlanTexts.{minor_row, program_row}
use Rattle.air_model.specs.Programs.{num_minors}
use Rattle.air_model.specs.Rows.{row_writer, rows_text}
use Rattle.air_report.specs.RowWriters.{written_text}
use Rattle.chunk_program.specs.Editions.{EditionDisks}
use Rattle.air_cli.proofs.PlanLemmas.{edition_is}
use Rattle.air_cli.proofs.commands.plan.rows.put_edition.Goals as goal

pub returns-clause-text : goal.returns-clause-text
returns-clause-text c =
    let d = c.args.planned.now in
    let told = ap (λ (p : EditionDisks). p.disks) c.program-program.ensures.told in
    let before = written_text c.args.wtr.now in
    let disks = written_text c.put_disks.new.wtr in
    edition_is (disks_in d c.args.edition) (rates_in d) before (written_text c.put_program.new.wtr) disks (written_text c.put_minors.new.wtr) (written_text c.put_items.new.wtr)
    (c.in_ok-put_program.ensures.text ∙ ap (λ p. before ++ row_text row_writer (program_row p)) told)
    c.in_ok-put_disks.ensures.text (c.in_ok-put_minors.ensures.text ∙ ap (λ p. disks ++ rows_text (map (minor_row p) (range_with_len 0 (num_minors p)))) told) c.in_ok-put_items.ensures.text
