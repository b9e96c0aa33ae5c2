use Rattle.std.proofs.Common.{rules, arith, sym, ap, ◌∙◌, ◌≡◌, ◌*◌, length, map, subst}
use Rattle.std.specs.List.{range_with_len}
use Rattle.std.specs.Vec.{with_items}
use Rattle.std.proofs.lemmas.List.{with_items_is}
use Rattle.group_matrix.specs.GroupBoards.{IsOfEvents, count_groups, group_column_on, grouped}
use Rattle.group_matrix.specs.GroupFields.{rows_in}
use Rattle.group_matrix.proofs.GroupLemmas.{of_events, same_groups}
use Rattle.group_matrix.proofs.groups.GroupBoard.fill.Goals as goal

pub returns-clause-filled : goal.returns-clause-filled
returns-clause-filled c =
    let inside = c.self.inside in
    let board = c.args.board.now in
    let n = length board.values in
    let group : inside.group ≡ c.args.self.now.group = ap (λ b. b.group) c.self.view_is in
    let values : c.copy_from_slice.new.self.items ≡ board.values = search (rules, c.values.ensures.found, c.copy_from_slice.ensures.items) in
    let entries = with_items_is inside.columns c.fill_rows.new.entries (c.fill_rows.auto.entries ∙ ap length c.deref_mut.ensures.value ∙ sym inside.columns.ok.0) in
    same_groups _ _ c.cycle-self-inside.ensures.found values group
    (ap (λ k. rows_in (count_groups inside.group k) k (with_items inside.columns c.fill_rows.new.entries).items) (ap length values)
    ∙ ap (rows_in (count_groups inside.group n) n) entries
    ∙ c.fill_rows.ensures
    ∙ ap (λ g. map (λ k. group_column_on board g (g * k)) (range_with_len 0 (count_groups g n))) group)

pub returns-clause-followed : goal.returns-clause-followed
returns-clause-followed c = λ values G is.
    let g = c.args.self.now.group in
    let same : c.self.inside.group ≡ g = ap (λ b. b.group) c.self.view_is in
    let some = c.self.invariant.some_group in
    subst (IsOfEvents values G) (sym (returns-clause-filled c ∙ ap (grouped g) is)) (of_events g values G (omega arith))
