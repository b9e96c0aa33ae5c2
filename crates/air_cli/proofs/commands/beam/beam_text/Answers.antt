use Rattle.std.proofs.Common.{ℕ, List, [], ◌∷◌, codes, length, map, ap, ◌∙◌}
use Rattle.air_base.specs.Numbers.{number_text}
use Rattle.air_index.specs.IndexedTapes.{beam_tape_of}
use Rattle.air_model.specs.Rows.{rows_text}
use Rattle.air_cli.specs.Beam.{beam_records}
use Rattle.air_cli.proofs.commands.beam.beam_text.Goals as goal

-- The line of these numbers.
abbrev line_of : ℕ → ℕ → ℕ → List ℕ
line_of records bytes indexes = rows_text ((codes "beam" ∷ map number_text (records ∷ bytes ∷ indexes ∷ [])) ∷ [])

pub returns : goal.returns
returns c =
    let d = c.args.planned.now in
    let counts = c.count_records-records.result in
    c.in_ok-text.ensures ∙ ap (λ k. line_of k c.beam_len-bytes.result counts.1) c.count_records-records.ensures.records
    ∙ ap (λ k. line_of (length (beam_records d)) k counts.1) c.beam_len-bytes.ensures ∙ ap (line_of (length (beam_records d)) (length (beam_tape_of d))) c.count_records-records.ensures.indexes
