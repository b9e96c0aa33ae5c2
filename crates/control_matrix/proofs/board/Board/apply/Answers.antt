use Rattle.std.proofs.Common.{arith, sym, ap, ◌∙◌, ◌≡◌, length, get_or, cond, refl}
use Rattle.std.proofs.lemmas.List.{with_items_is}
use Rattle.std.proofs.lemmas.List.FromFn.{length-map-range_with_len}
use Rattle.air_history.specs.Histories.{writes}
use Rattle.air_history.specs.Tables.{value_after, values_of}
use Rattle.air_lanes.specs.Kernels.{stamp_each}
use Rattle.control_matrix.specs.Columns.{column_in}
use Rattle.control_matrix.specs.BoardSteps.{step_board}
use Rattle.control_matrix.specs.BoardFields.{board_in}
use Rattle.control_matrix.proofs.EntryLemmas.{columns_whole, marked_stamp}
use Rattle.control_matrix.proofs.BoardLemmas.{start_board, commit_board, board_followed}
use Rattle.control_matrix.proofs.board.Board.apply.Goals as goal

pub returns-then-is_start-clause-stepped : goal.returns-then-is_start-clause-stepped
returns-then-is_start-clause-stepped c =
    sym (start_board (board_in c.self.inside) c.args.event.now (sym c.is_start.ensures ∙ c.if-is_start.true)
    (length-map-range_with_len (column_in (length c.self.inside.values.items) c.self.inside.columns.items) 0 (length c.self.inside.values.items)) c.self.invariant.vector)
    ∙ ap (λ b. step_board b c.args.event.now) c.self.view_is

pub returns-then-is_start-clause-followed : goal.returns-then-is_start-clause-followed
returns-then-is_start-clause-followed c = board_followed c.args.self.now _ c.args.event.now c.requires.fits c.shows_rules_kept.ensures (returns-then-is_start-clause-stepped c)

pub returns-clause-stepped : goal.returns-clause-stepped
returns-clause-stepped c =
    let e = c.args.event.now in
    let inside = c.self.inside in
    let n = length inside.values.items in
    let values = with_items_is inside.values c.run_event.new.values (c.run_event.auto.values ∙ ap length c.deref_mut-5.ensures.value ∙ sym inside.values.ok.0) in
    let counted = ap length values ∙ c.run_event.auto.values ∙ ap length c.deref_mut-5.ensures.value in
    let columns = with_items_is inside.columns c.step_columns.new.entries (c.step_columns.auto.entries ∙ ap length c.deref_mut-2.ensures.value ∙ sym inside.columns.ok.0) in
    let vector = with_items_is inside.vector c.stamp.new.dst (c.stamp.auto.dst ∙ ap length c.deref_mut-4.ensures.value ∙ sym inside.vector.ok.0) in
    let row : length c.deref_mut-4.result.now ≡ n = ap length c.deref_mut-4.ensures.value ∙ c.self.invariant.vector in
    let wide = c.stamp.auto.dst ∙ row in
    let marked = with_items_is inside.marks c.mark.new.marks (c.mark.auto.marks ∙ ap length c.deref_mut.ensures.value ∙ sym inside.marks.ok.0) in
    let long : length c.mark.new.marks ≡ n = c.mark.auto.marks ∙ ap length c.deref_mut.ensures.value ∙ c.self.invariant.marks in
    let marks : c.deref-2.result.now ≡ c.mark.new.marks = c.deref-2.ensures.value ∙ marked in
    commit_board (board_in inside) _ e (sym c.is_start.ensures ∙ c.if-is_start.false) refl
    counted
    (λ i. ap (λ xs. get_or xs i 0) values ∙ c.run_event.ensures i ∙ ap (λ xs. value_after (values_of xs) e i) c.deref_mut-5.ensures.value)
    (columns_whole n (length c.deref_mut-3.result.now) _ inside.cycle inside.columns.items c.deref_mut-2.result.now c.step_columns.new.entries _ e
    (ap length c.deref_mut-3.ensures.value ∙ c.self.invariant.spare) counted c.deref_mut-2.ensures.value columns c.step_columns.ensures)
    (ap length vector ∙ wide)
    (λ i l. ap (λ xs. get_or xs i 0) (vector ∙ c.stamp.ensures)
    ∙ ap (λ ms. get_or (stamp_each inside.cycle ms c.deref_mut-4.result.now) i 0) marks
    ∙ marked_stamp e inside.cycle c.mark.new.marks c.deref_mut-4.result.now i (long ∙ sym row) (omega (arith, row)) (c.mark.ensures i (omega (arith, long)))
    ∙ ap (λ xs. cond (writes e i) inside.cycle (get_or xs i 0)) c.deref_mut-4.ensures.value)
    ∙ ap (λ b. step_board b e) c.self.view_is

pub returns-clause-followed : goal.returns-clause-followed
returns-clause-followed c = board_followed c.args.self.now _ c.args.event.now c.requires.fits c.shows_rules_kept.ensures (returns-clause-stepped c)
