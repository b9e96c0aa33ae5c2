use Rattle.std.proofs.Common.{◌≡◌, map, codes, ◌++◌, ◌∙◌, ap}
use Rattle.air_model.specs.Reports.{Report, counts_row, event_row, look_row, report_text, verdict_row}
use Rattle.air_model.specs.Rows.{rows_text}
use Rattle.air_report.specs.RowWriters.{written_text}
use Rattle.air_report.proofs.LineLemmas.{sections_text}
use Rattle.air_report.proofs.writing.report.text_of.Goals as goal

pub returns : goal.returns
returns c =
    let r = c.report.inside in
    let seen : Report = record { history = r.history; verdicts = r.verdicts.items; counts = r.counts.items; glances = r.glances.items; looks = r.looks.items } in
    let history = rows_text (map event_row seen.history) in
    let verdicts = history ++ rows_text (map verdict_row seen.verdicts) in
    let counts = verdicts ++ rows_text (map counts_row seen.counts) in
    let glances = counts ++ rows_text (map (look_row (codes "glance")) seen.glances) in
    let first : written_text c.put_history.new.wtr ≡ history =
    c.in_ok-put_history.ensures.text ∙ ap (λ t. t ++ rows_text (map event_row c.events.result.now)) (c.row_writer-wtr.ensures.text ∙ c.new.ensures.items)
    ∙ ap (λ l. rows_text (map event_row l)) c.events.ensures.listed in
    let second : written_text c.put_verdicts.new.wtr ≡ verdicts =
    c.in_ok-put_verdicts.ensures.text ∙ ap (λ t. t ++ rows_text (map verdict_row c.deref.result.now)) first ∙ ap (λ l. history ++ rows_text (map verdict_row l)) c.deref.ensures.value in
    let third : written_text c.put_all_counts.new.wtr ≡ counts =
    c.in_ok-put_all_counts.ensures.text ∙ ap (λ t. t ++ rows_text (map counts_row c.deref-2.result.now)) second ∙ ap (λ l. verdicts ++ rows_text (map counts_row l)) c.deref-2.ensures.value in
    let fourth : written_text c.put_looks.new.wtr ≡ glances =
    c.in_ok-put_looks.ensures.text ∙ ap (λ t. t ++ rows_text (map (look_row (codes "glance")) c.deref-3.result.now)) third
    ∙ ap (λ l. counts ++ rows_text (map (look_row (codes "glance")) l)) c.deref-3.ensures.value in
    c.in_ok-text.ensures ∙ c.in_ok-put_looks-2.ensures.text ∙ ap (λ t. t ++ rows_text (map (look_row (codes "look")) c.deref-4.result.now)) fourth
    ∙ ap (λ l. glances ++ rows_text (map (look_row (codes "look")) l)) c.deref-4.ensures.value ∙ sections_text seen ∙ ap report_text c.report.view_is
