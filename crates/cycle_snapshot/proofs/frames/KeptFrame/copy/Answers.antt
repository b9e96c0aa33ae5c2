use Rattle.std.proofs.Common.{◌≡◌, ◌<◌, arith, ◌∙◌, ◌%◌, ◌^◌, [], length, sym, ap, map}
use Rattle.std.specs.List.{sum}
use Rattle.std.proofs.lemmas.List.{with_items_is, length-map}
use Rattle.std.proofs.lemmas.List.FromFn.{fill_by_all}
use Rattle.air_history.specs.Columns.{column}
use Rattle.air_history.specs.Boards.{frame_of}
use Rattle.control_matrix.proofs.BoardLemmas.{column_of}
use Rattle.cycle_snapshot.proofs.BatchLemmas.{board_values}
use Rattle.cycle_snapshot.proofs.FrameLemmas.{same_frame, mapped}
use Rattle.cycle_snapshot.proofs.frames.KeptFrame.copy.Goals as goal

pub returns : goal.returns
returns c = λ values G is.
    let board = c.args.board.now in
    let sized : length board.values ≡ length values = ap (λ b. length b.values) is ∙ board_values values G in
    let xs = c.copy_values.new.values in
    let cs = c.copy_columns.new.columns in
    let all = with_items_is c.self.inside.values xs (c.copy_values.auto.values ∙ ap length c.deref_mut.ensures.value ∙ sym c.self.inside.values.ok.0) in
    let rows = with_items_is c.self.inside.columns cs (c.copy_columns.auto.columns ∙ ap length c.deref_mut-2.ensures.value ∙ sym c.self.inside.columns.ok.0) in
    let many : length cs ≡ length values = c.copy_columns.ensures.sized.0 ∙ sized in
    same_frame _ (frame_of values G)
    (c.cycle-self-inside.ensures.after values G is)
    (all ∙ c.copy_values.ensures ∙ ap (λ b. b.values) is)
    (ap (map (λ c. c.items)) rows ∙ fill_by_all (column (length values) G) (map (λ c. c.items) cs) (length values) [] (length-map cs (λ c. c.items) ∙ many)
    (λ k l. let within : k < length board.values = omega (arith, sized) in
    mapped (λ c. c.items) cs k [] _ (omega (arith, many)) (λ d. c.copy_columns.ensures.columns k d within) ∙ column_of board values G k is within))
    (c.total_of-self-inside.ensures ∙ ap (λ vs. sum vs % 2 ^ 64) (c.deref.ensures.value ∙ all ∙ c.copy_values.ensures ∙ ap (λ b. b.values) is))
