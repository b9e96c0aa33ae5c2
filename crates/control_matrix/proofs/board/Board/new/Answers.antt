use Rattle.std.proofs.Common.{rules, sym, ap, ◌∙◌, ◌≡◌, ◌*◌, length, replicate, refl}
use Rattle.control_matrix.specs.Columns.{columns_in}
use Rattle.control_matrix.proofs.FlatLemmas.{zero_columns}
use Rattle.control_matrix.proofs.BoardLemmas.{same_board, empty_board}
use Rattle.control_matrix.proofs.board.Board.new.Goals as goal

pub returns-clause-zeros : goal.returns-clause-zeros
returns-clause-zeros c =
    let n = length c.args.values.now in
    let copied : c.in_ok-to_vec.field-0.items ≡ c.args.values.now = search rules in
    let cells : c.in_ok-vec.field-0.items ≡ replicate (n * n) 0 = search rules in
    let row : c.in_ok-vec-2.field-0.items ≡ replicate n 0 = search rules in
    same_board _ _ refl copied
    (ap (λ m. columns_in m c.in_ok-vec.field-0.items) (ap length copied) ∙ zero_columns n c.in_ok-vec.field-0.items cells)
    row

pub returns-clause-empty : goal.returns-clause-empty
returns-clause-empty c = returns-clause-zeros c ∙ sym (empty_board c.args.values.now)
