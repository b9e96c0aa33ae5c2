use Rattle.std.proofs.Common.{◌∙◌, length, sym, ap, arith}
use Rattle.group_matrix.specs.GroupBoards.{GroupBoard, grouped}
use Rattle.deck_runs.proofs.jobs.airings.GroupBoardAiring.fill_from.Goals as goal

pub fill-requires : goal.fill-requires
fill-requires c = record { items = c.requires.suits.1.0 }

pub returns-clause-ready : goal.returns-clause-ready
returns-clause-ready c = let filled = c.fill.ensures.filled in filled ∙ ap (λ n. grouped n c.args.board.now) (sym (ap (λ (b : GroupBoard). b.group) filled))

pub returns-clause-group : goal.returns-clause-group
returns-clause-group c = ap (λ (b : GroupBoard). b.group) c.fill.ensures.filled

pub returns-clause-suits : goal.returns-clause-suits
returns-clause-suits c = λ n form suits. (ap (λ (b : GroupBoard). length b.values) c.fill.ensures.filled ∙ sym c.requires.suits.1.0 ∙ suits.0, (let same = returns-clause-group c in let some = suits.1 in omega arith), suits.2)
