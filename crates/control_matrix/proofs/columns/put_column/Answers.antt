use Rattle.std.proofs.Common.{rules, arith, ◌≡◌, ◌∙◌, ap, cond, ◌==◌, length}
use Rattle.control_matrix.specs.Columns.{column_in}
use Rattle.control_matrix.proofs.FlatLemmas.{column_put}
use Rattle.control_matrix.proofs.columns.put_column.Goals as goal

pub returns : goal.returns
returns c = λ j l.
    let copied : c.copy_from_slice.new.self ≡ c.args.column.now = search rules in
    column_put c.args.item (length c.args.column.now) c.args.entries.now c.copy_from_slice.new.self _ j (omega arith) c.requires.square (ap length copied) c.requires.within l
    ∙ ap (λ xs. cond (c.args.item == j) xs (column_in (length c.args.column.now) c.args.entries.now j)) copied
