use Rattle.std.proofs.Common.{rules, arith, sym, ap, ◌∙◌, ◌≡◌, ◌<◌, List, ℕ, get_or, length, replicate}
use Rattle.std.proofs.lemmas.List.{get_or-replicate}
use Rattle.air_lanes.proofs.PlaceLemmas.{greater_at}
use Rattle.control_matrix.specs.Columns.{column_in}
use Rattle.control_matrix.proofs.EntryLemmas.{greatest_of_more, greatest_of_none}
use Rattle.control_matrix.proofs.FlatLemmas.{column_len}
use Rattle.control_matrix.proofs.columns.merge.Goals as goal

pub loop-item-init : goal.loop-item-init
loop-item-init c = λ k l.
    let zeros : c.fill.new.self ≡ replicate (length c.args.out.now) 0 = search rules in
    ap (λ xs. get_or xs k 0) zeros ∙ get_or-replicate (length c.args.out.now) k 0 0 (omega (arith, c.fill.ensures.len))
    ∙ sym (greatest_of_none (λ r. get_or (column_in (length c.args.out.now) c.args.entries.now r) k 0) c.args.reads.now)

pub loop-item-preserved : goal.loop-item-preserved
loop-item-preserved c = λ k l.
    let n = length c.args.out.now in
    let read = get_or c.args.reads.now c.loop-item.item-index 0 in
    let sized : length c.loop-item.out ≡ n = c.loop-item.auto.out ∙ c.fill.ensures.len in
    let more = greatest_of_more (λ r. get_or (column_in n c.args.entries.now r) k 0) c.args.reads.now c.loop-item.item-index c.loop-item-test.true in
    let column : get_or c.column_of.result.now k 0 ≡ get_or (column_in n c.args.entries.now read) k 0 =
    ap (λ (xs : List ℕ). get_or xs k 0) (c.column_of.ensures ∙ ap (λ m. column_in m c.args.entries.now read) sized) in
    let within : k < length c.loop-item.out = omega (arith, c.max_into.auto.dst) in
    let was = c.loop-item.invariant k within in
    let long : length c.column_of.result.now ≡ length c.loop-item.out =
    ap length (c.column_of.ensures ∙ ap (λ m. column_in m c.args.entries.now read) sized) ∙ column_len n c.args.entries.now read c.requires.square (c.requires.within c.loop-item.item-index 0 c.loop-item-test.true) ∙ sym sized in
    let step = ap (λ xs. get_or xs k 0) c.max_into.ensures ∙ greater_at c.loop-item.out c.column_of.result.now k long within in
    omega arith
