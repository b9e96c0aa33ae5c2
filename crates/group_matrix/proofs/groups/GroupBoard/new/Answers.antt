use Rattle.std.proofs.Common.{rules, refl, ap, ◌∙◌, ◌≡◌, ◌*◌, length, replicate}
use Rattle.std.proofs.lemmas.List.{length-replicate}
use Rattle.group_matrix.specs.GroupBoards.{count_groups}
use Rattle.group_matrix.specs.GroupFields.{rows_in}
use Rattle.group_matrix.proofs.RowLemmas.{zero_rows}
use Rattle.group_matrix.proofs.GroupLemmas.{same_groups}
use Rattle.group_matrix.proofs.groups.GroupBoard.new.Goals as goal

pub returns : goal.returns
returns c =
    let g = c.args.group in
    let w = c.from-n.result in
    let wn : w ≡ c.args.n = c.from-n.ensures in
    let values : c.in_ok-vec.field-0.items ≡ replicate w 0 = search rules in
    let long : length c.in_ok-vec.field-0.items ≡ c.args.n = ap length values ∙ length-replicate w 0 ∙ wn in
    let cells : c.in_ok-vec-2.field-0.items ≡ replicate (c.count_groups.result * w) 0 = search rules in
    let many : c.count_groups.result * w ≡ count_groups g c.args.n * c.args.n = ap (λ k. k * w) c.count_groups.ensures.counted ∙ ap (λ k. count_groups g k * k) wn in
    record {
      zeros = same_groups _ _ refl (values ∙ ap (λ k. replicate k 0) wn) refl
          (ap (λ k. rows_in (count_groups g k) k c.in_ok-vec-2.field-0.items) long ∙ zero_rows (count_groups g c.args.n) c.args.n c.in_ok-vec-2.field-0.items (cells ∙ ap (λ k. replicate k 0) many));
    }
