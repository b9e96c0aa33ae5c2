use Rattle.std.proofs.Common.{rules, arith, sym, ap, ◌∙◌, ◌≡◌, ◌<◌, ◌-◌, max, ℕ, get_or, length, replicate}
use Rattle.std.specs.List.{range_with_len}
use Rattle.std.proofs.lemmas.List.{get_or-replicate}
use Rattle.std.proofs.lemmas.List.FromFn.{fill_by_all}
use Rattle.air_history.specs.Places.{greatest_of}
use Rattle.air_lanes.proofs.PlaceLemmas.{greater_at}
use Rattle.control_matrix.specs.Columns.{entry_in_columns}
use Rattle.group_matrix.proofs.RowLemmas.{greatest_more, greatest_none}
use Rattle.group_matrix.proofs.rows.fill_row.Goals as goal

pub loop-item-init : goal.loop-item-init
loop-item-init c = λ i l.
    let zeros : c.fill.new.self ≡ replicate (length c.args.column.now) 0 = search rules in
    ap (λ xs. get_or xs i 0) zeros ∙ get_or-replicate (length c.args.column.now) i 0 0 (omega (arith, c.fill.ensures.len))
    ∙ sym (greatest_none (λ q. entry_in_columns c.args.board.now.columns q i) c.args.first (c.args.first - c.args.first) (omega arith))

pub loop-item-preserved : goal.loop-item-preserved
loop-item-preserved c = λ i l.
    let f : ℕ → ℕ = λ q. entry_in_columns c.args.board.now.columns q i in
    let item = c.loop-item.item in
    let within : i < length c.loop-item.column = omega (arith, c.max_into.auto.dst) in
    let was : get_or c.loop-item.column i 0 ≡ greatest_of f (range_with_len c.args.first (item - c.args.first)) = c.loop-item.invariant i within in
    let sized : length c.column.result.now ≡ length c.loop-item.column = omega (arith, c.column.ensures.sized, c.loop-item.auto.column, c.fill.ensures.len, c.requires.long) in
    let read : get_or c.column.result.now i 0 ≡ f item = ap (λ xs. get_or xs i 0) c.column.ensures.found in
    let step : get_or c.max_into.new.dst i 0 ≡ max (get_or c.loop-item.column i 0) (get_or c.column.result.now i 0) =
    ap (λ xs. get_or xs i 0) c.max_into.ensures ∙ greater_at c.loop-item.column c.column.result.now i sized within in
    step ∙ ap (λ m. max m (get_or c.column.result.now i 0)) was ∙ ap (λ m. max (greatest_of f (range_with_len c.args.first (item - c.args.first))) m) read
    ∙ sym (greatest_more f c.args.first item (omega (arith, c.loop-item.auto.item)))

pub returns : goal.returns
returns c =
    let board = c.args.board.now in
    let n = length board.values in
    let first = c.args.first in
    let last : c.loop-item.item ≡ c.args.end = omega (arith, c.loop-item.auto.item-end c.requires.order, c.loop-item-test.false) in
    let sized : length c.loop-item.column ≡ n = omega (arith, c.loop-item.auto.column, c.fill.ensures.len, c.requires.long) in
    fill_by_all (λ i. greatest_of (λ q. entry_in_columns board.columns q i) (range_with_len first (c.args.end - first))) c.loop-item.column n 0 sized
    (λ i l. c.loop-item.invariant i (omega arith)
    ∙ ap (λ k. greatest_of (λ q. entry_in_columns board.columns q i) (range_with_len first (k - first))) last)
