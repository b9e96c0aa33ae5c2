use Rattle.std.proofs.Common.{◌≡◌, ◌++◌, ◌∷◌, [], ◌∙◌, ap, get_or, arith}
use Rattle.air_base.specs.declared.verdicts.ReadOf.{ReadOf}
use Rattle.air_model.specs.Reports.{read_text}
use Rattle.air_report.proofs.RowLemmas.{parts_first, parts_more}
use Rattle.air_report.proofs.writing.rows.add_reads.Goals as goal
use Rattle.air_report.proofs.writing.rows.add_reads.Goals.{then-i-gt0+in_ok-extend_from_slice, else-i-gt0}

pub loop-i-preserved : goal.loop-i-preserved
loop-i-preserved c =
    let none : ReadOf = record { item = 0; cycle = 0; value = 0 } in
    let read = get_or c.args.reads.now c.loop-i.i none in
    let put : c.add_read.new.text.items ≡ c.if-i-gt0.text.items ++ read_text read = c.in_ok-add_read.ensures in
    elim c.if-i-gt0.branch [
      | then-i-gt0+in_ok-extend_from_slice w ↦
          let space : c.if-i-gt0.text.items ≡ c.loop-i.text.items ++ 32 ∷ [] = ap (λ t. t.items) w.text-is ∙ w.in_ok-extend_from_slice.ensures.items in
          put ∙ ap (λ t. t ++ read_text read) space ∙ parts_more read_text c.args.reads.now c.loop-i.i none c.loop-i.text.items w.if-i-gt0.true (omega arith) c.loop-i.invariant
      | else-i-gt0 w ↦
          let same : c.if-i-gt0.text.items ≡ c.loop-i.text.items = ap (λ t. t.items) w.text-is in
          put ∙ ap (λ t. t ++ read_text read) same ∙ parts_first read_text c.args.reads.now c.loop-i.i none c.loop-i.text.items w.if-i-gt0.false (omega arith) c.loop-i.invariant
    ]
