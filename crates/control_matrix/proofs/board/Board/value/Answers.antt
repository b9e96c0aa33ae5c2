use Rattle.std.proofs.Common.{arith, ap, ◌∙◌, ◌≡◌, ◌<◌, length, get_or}
use Rattle.std.proofs.lemmas.List.{get_or_read}
use Rattle.control_matrix.proofs.BoardLemmas.{value_of}
use Rattle.control_matrix.proofs.board.Board.value.Goals as goal

pub returns-clause-after : goal.returns-clause-after
returns-clause-after c = λ values G is.
    let same : length c.self.inside.values.items ≡ length c.args.self.now.values = ap (λ b. length b.values) c.self.view_is in
    let inside : c.args.item < length c.self.inside.values.items = omega (arith, same, c.requires) in
    get_or_read c.self.inside.values.items c.args.item c.index.result.now inside c.index.ensures 0
    ∙ ap (λ b. get_or b.values c.args.item 0) c.self.view_is
    ∙ value_of c.args.self.now values G c.args.item is c.requires
