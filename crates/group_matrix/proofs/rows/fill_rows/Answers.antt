use Rattle.std.proofs.Common.{arith, sym, ap, ◌∙◌, ◌≡◌, ◌<◌, ◌-◌, ◌+◌, ◌*◌, ◌==◌, min, [], cond, length, map, inl, inr}
use Rattle.std.specs.List.{range_with_len}
use Rattle.std.proofs.Math.Nat.{mul_comm}
use Rattle.std.proofs.lemmas.Bool.{cases_eq, cond-true, cond-false, eq-eqb, ne_eqb}
use Rattle.std.proofs.lemmas.List.FromFn.{fill_by_all, get_or-map-range_with_len, length-map-range_with_len}
use borrow.Rule.Slice.PartMut.{put_mid}
use Rattle.air_history.specs.Places.{greatest_of}
use Rattle.air_history.specs.Columns.{group_of}
use Rattle.control_matrix.specs.Columns.{column_in, entry_in_columns}
use Rattle.group_matrix.specs.GroupBoards.{count_groups, group_column_on}
use Rattle.group_matrix.specs.GroupFields.{rows_in}
use Rattle.group_matrix.proofs.RowLemmas.{group_row, row_put}
use Rattle.group_matrix.proofs.rows.fill_rows.Goals as goal

pub loop-row-preserved : goal.loop-row-preserved
loop-row-preserved c = λ r l.
    let board = c.args.board.now in
    let g = c.args.group in
    let n = length board.values in
    let m = count_groups g n in
    let s = c.loop-row.row in
    let w = c.from-n.result in
    let wn : w ≡ n = c.from-n.ensures ∙ c.n.ensures.counted in
    let many : c.count_groups-row-end.result ≡ m = c.count_groups-row-end.ensures.counted ∙ ap (count_groups g) wn in
    let ls : s < m = omega (arith, c.loop-row-test.true) in
    let lr : r < m = omega arith in
    let long : length c.loop-row.entries ≡ m * w = c.loop-row.auto.entries ∙ c.requires.long ∙ ap (λ k. m * k) (sym wn) in
    let sized : length c.fill_row.new.column ≡ w = ap length c.fill_row.ensures ∙ length-map-range_with_len _ 0 n ∙ sym wn in
    let first = s * c.from.result in
    let begins : first ≡ g * s = ap (λ k. s * k) c.from.ensures ∙ mul_comm s g in
    let count : c.min-end.result - first ≡ min g (n - g * s) = omega (arith, c.min-end.ensures, c.from-in-loop-row.ensures) in
    let items : range_with_len first (c.min-end.result - first) ≡ group_of g n (g * s) =
    ap (λ a. range_with_len a (c.min-end.result - first)) begins ∙ ap (range_with_len (g * s)) count ∙ sym (group_row g n s c.requires.some ls) in
    let own : c.fill_row.new.column ≡ group_column_on board g (g * s) =
    c.fill_row.ensures ∙ ap (λ items. map (λ i. greatest_of (λ q. entry_in_columns board.columns q i) items) (range_with_len 0 n)) items in
    ap (λ x. column_in x (put_mid (s * w) (s * w + w - s * w) c.loop-row.entries c.fill_row.new.column) r) (sym wn)
    ∙ row_put m w c.loop-row.entries c.fill_row.new.column s (s * w + w - s * w) r (omega arith) long sized ls lr
    ∙ elim (cases_eq s r) as (λ _. cond (s == r) c.fill_row.new.column (column_in w c.loop-row.entries r) ≡ group_column_on board g (g * r)) [
      | inl same ↦ cond-true (s == r) _ _ (eq-eqb s r same) ∙ own ∙ ap (λ k. group_column_on board g (g * k)) same
      | inr other ↦ cond-false (s == r) _ _ (ne_eqb s r other) ∙ ap (λ x. column_in x c.loop-row.entries r) wn ∙ c.loop-row.invariant r (omega arith)
    ]

pub returns : goal.returns
returns c =
    let board = c.args.board.now in
    let g = c.args.group in
    let n = length board.values in
    let m = count_groups g n in
    let wn : c.from-n.result ≡ n = c.from-n.ensures ∙ c.n.ensures.counted in
    let many : c.count_groups-row-end.result ≡ m = c.count_groups-row-end.ensures.counted ∙ ap (count_groups g) wn in
    fill_by_all (λ k. group_column_on board g (g * k)) (rows_in m n c.loop-row.entries) m [] (length-map-range_with_len (column_in n c.loop-row.entries) 0 m)
    (λ k l. get_or-map-range_with_len (column_in n c.loop-row.entries) 0 m k k [] l (omega arith) ∙ c.loop-row.invariant k (omega (arith, c.loop-row-test.false)))
