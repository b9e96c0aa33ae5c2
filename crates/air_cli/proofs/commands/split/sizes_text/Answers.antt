use Rattle.std.proofs.Common.{◌≡◌, ◌++◌, ◌∷◌, [], ◌∙◌, ap, get_or, arith}
use Rattle.air_base.specs.Numbers.{number_text}
use Rattle.air_report.proofs.RowLemmas.{parts_first, parts_more}
use Rattle.air_cli.proofs.commands.split.sizes_text.Goals as goal
use Rattle.air_cli.proofs.commands.split.sizes_text.Goals.{then-i-gt0+in_ok-extend_from_slice, else-i-gt0}

pub loop-i-preserved : goal.loop-i-preserved
loop-i-preserved c =
    let size = get_or c.args.sizes.now c.loop-i.i 0 in
    let put : c.write_u64.new.out.items ≡ c.if-i-gt0.text.items ++ number_text size =
    c.in_ok-write_u64.ensures.written ∙ ap (λ n. c.if-i-gt0.text.items ++ number_text n) c.from.ensures in
    elim c.if-i-gt0.branch [
      | then-i-gt0+in_ok-extend_from_slice w ↦
          let space : c.if-i-gt0.text.items ≡ c.loop-i.text.items ++ 32 ∷ [] = ap (λ t. t.items) w.text-is ∙ w.in_ok-extend_from_slice.ensures.items in
          put ∙ ap (λ t. t ++ number_text size) space ∙ parts_more number_text c.args.sizes.now c.loop-i.i 0 c.loop-i.text.items w.if-i-gt0.true (omega arith) c.loop-i.invariant
      | else-i-gt0 w ↦
          let same : c.if-i-gt0.text.items ≡ c.loop-i.text.items = ap (λ t. t.items) w.text-is in
          put ∙ ap (λ t. t ++ number_text size) same ∙ parts_first number_text c.args.sizes.now c.loop-i.i 0 c.loop-i.text.items w.if-i-gt0.false (omega arith) c.loop-i.invariant
    ]
