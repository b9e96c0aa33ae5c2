use Rattle.std.proofs.Common.{◌++◌, ◌∷◌, [], ℕ, List, codes, count_by, length, map, ap, ◌∙◌}
use Rattle.csv.specs.Writing.{row_text}
use Rattle.air_base.specs.Numbers.{number_text}
use Rattle.air_model.specs.Rows.{row_writer, rows_text}
use Rattle.air_report.specs.RowWriters.{written_text}
use Rattle.air_report.proofs.RowLemmas.{rows_push}
use Rattle.live_replay.specs.FindingTexts.{audited_row, differs, finding_row, findings_text}
use Rattle.live_replay.proofs.audits.texts.findings_text.Goals as goal

pub returns : goal.returns
unfolding findings_text
returns c =
    let found = c.args.found.now in
    let rows = rows_text (map finding_row found) in
    let last : ℕ → List ℕ = λ n. row_text row_writer (codes "audited" ∷ map number_text (length found ∷ n ∷ [])) in
    c.in_ok-text.ensures ∙ c.in_ok-wtr.ensures.text ∙ ap (λ n. written_text c.put_findings.new.wtr ++ last n) c.differing_count.ensures
    ∙ ap (λ t. t ++ last (count_by differs found)) (c.in_ok-put_findings.ensures.text ∙ ap (λ t. t ++ rows) (c.row_writer-wtr.ensures.text ∙ c.new.ensures.items))
    ∙ rows_push [] (map finding_row found) (audited_row found)
