use Rattle.std.proofs.Common.{rules, arith, sym, ap, ◌∙◌, ◌≡◌, length, get_or, []}
use Rattle.control_matrix.specs.Columns.{column_in}
use Rattle.control_matrix.proofs.EntryLemmas.{column_at}
use Rattle.control_matrix.proofs.BoardLemmas.{column_of}
use Rattle.control_matrix.proofs.board.Board.column.Goals as goal

pub returns-clause-found : goal.returns-clause-found
returns-clause-found c =
    let n = length c.self.inside.values.items in
    let counted : c.len.result ≡ n = search rules in
    let same : n ≡ length c.args.self.now.values = ap (λ b. length b.values) c.self.view_is in
    c.column_of.ensures
    ∙ ap (λ m. column_in m c.deref.result.now c.args.item) counted
    ∙ ap (λ xs. column_in n xs c.args.item) c.deref.ensures.value
    ∙ sym (column_at n c.self.inside.columns.items c.args.item (omega (arith, same, c.requires)))
    ∙ ap (λ b. get_or b.columns c.args.item []) c.self.view_is

pub returns-clause-after : goal.returns-clause-after
returns-clause-after c = λ values G is. returns-clause-found c ∙ column_of c.args.self.now values G c.args.item is c.requires
