use Rattle.std.proofs.Common.{◌∷◌, [], ◌++◌, ◌∙◌, map, ap, subst, arith}
use Rattle.air_base.specs.Numbers.{number_text}
use Rattle.air_base.specs.NumberLists.{list_text}
use Rattle.air_model.specs.Reports.{read_text}
use Rattle.air_report.specs.Private.BegunRows.{IsBegun}
use Rattle.air_report.specs.RowWriters.{written_text}
use Rattle.air_report.proofs.RowSteps.{none_yet}
use Rattle.air_report.proofs.writing.rows.put_attempt.Goals as goal

pub returns : goal.returns
returns c =
    let before = written_text c.args.wtr.now in
    let line = c.args.line.now in
    let tag = c.args.tag.now ∷ [] in
    let reader = tag ++ number_text line.reader ∷ [] in
    let query = reader ++ number_text line.verdict.query ∷ [] in
    let attempt = query ++ number_text line.verdict.attempt ∷ [] in
    let first = c.in_ok-put_field.ensures before [] (omega arith) (none_yet c.args.wtr.now c.requires) in
    let second = subst (λ n. IsBegun before (tag ++ number_text n ∷ []) c.put_number.new.wtr) c.from.ensures (c.in_ok-put_number.ensures before tag (omega arith) first) in
    let third = subst (λ n. IsBegun before (reader ++ number_text n ∷ []) c.put_number-2.new.wtr) c.from-2.ensures (c.in_ok-put_number-2.ensures before reader (omega arith) second) in
    let fourth = subst (λ n. IsBegun before (query ++ number_text n ∷ []) c.put_number-3.new.wtr) c.from-3.ensures (c.in_ok-put_number-3.ensures before query (omega arith) third) in
    let reads = c.deref.ensures.value ∙ c.in_ok-add_reads.ensures ∙ ap (λ reads. list_text (map read_text reads)) c.as_slice.ensures in
    subst (λ text. IsBegun before (attempt ++ text ∷ []) c.put_field-2.new.wtr) reads (c.in_ok-put_field-2.ensures before attempt (omega arith) fourth)
