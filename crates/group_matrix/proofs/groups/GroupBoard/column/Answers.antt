use Rattle.std.proofs.Common.{rules, arith, sym, ap, ◌∙◌, ◌≡◌, ◌<◌, ◌/◌, length, []}
use Rattle.std.proofs.lemmas.List.FromFn.{get_or-map-range_with_len}
use Rattle.control_matrix.specs.Columns.{column_in}
use Rattle.group_matrix.specs.GroupBoards.{count_groups, item_column}
use Rattle.group_matrix.proofs.GroupLemmas.{group_counted}
use Rattle.group_matrix.proofs.RowLemmas.{row_len}
use Rattle.group_matrix.proofs.groups.GroupBoard.column.Goals as goal

pub returns-clause-found : goal.returns-clause-found
returns-clause-found c =
    let inside = c.self.inside in
    let n = length inside.values.items in
    let g = inside.group in
    let item = c.args.item in
    let counted : c.len.result ≡ n = search rules in
    let same : n ≡ length c.args.self.now.values = ap (λ b. length b.values) c.self.view_is in
    let within : item < n = omega (arith, c.requires) in
    c.row_of.ensures
    ∙ ap (λ m. column_in m c.deref.result.now (item / g)) counted
    ∙ ap (λ xs. column_in n xs (item / g)) c.deref.ensures.value
    ∙ sym (get_or-map-range_with_len (column_in n inside.columns.items) 0 (count_groups g n) (item / g) (item / g) [] (group_counted g n item c.self.invariant.some_group within) (omega arith))
    ∙ ap (λ b. item_column b item) c.self.view_is

pub returns-clause-sized : goal.returns-clause-sized
returns-clause-sized c =
    let inside = c.self.inside in
    let n = length inside.values.items in
    let g = inside.group in
    let item = c.args.item in
    let counted : c.len.result ≡ n = search rules in
    let same : n ≡ length c.args.self.now.values = ap (λ b. length b.values) c.self.view_is in
    let within : item < n = omega (arith, c.requires) in
    ap length (c.row_of.ensures ∙ ap (λ m. column_in m c.deref.result.now (item / g)) counted ∙ ap (λ xs. column_in n xs (item / g)) c.deref.ensures.value)
    ∙ row_len (count_groups g n) n inside.columns.items (item / g) c.self.invariant.columns (group_counted g n item c.self.invariant.some_group within)
    ∙ same
