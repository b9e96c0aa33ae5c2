use Rattle.std.proofs.Common.{sym, ap, ◌∙◌, arith}
use Rattle.control_matrix.specs.BoardSteps.{step_all}
use Rattle.cycle_snapshot.proofs.BatchLemmas.{batch_taken, batch_starts, other_items, no_cycle}
use Rattle.cycle_snapshot.proofs.board_sides.absorb_batch.Goals as goal

pub returns-then-news-n : goal.returns-then-news-n
returns-then-news-n c = other_items c.args.board.now c.args.news.now.items c.args.news.now.batch (λ same. c.if-news-n.true (ap (λ n. n.items) c.news.view_is ∙ same ∙ sym c.n.ensures.counted))

pub returns-then-cycle : goal.returns-then-cycle
returns-then-cycle c = no_cycle c.args.board.now c.args.news.now.items c.args.news.now.batch (let e = c.cycle.ensures.found in let t = c.if-cycle.true in omega arith)

pub apply_to-requires-clause-room : goal.apply_to-requires-clause-room
apply_to-requires-clause-room c =
    let b = batch_starts c.news.inside.items c.news.inside.batch c.news.invariant in
    let e = c.cycle.ensures.found in let f = c.if-cycle.false in omega arith

pub returns : goal.returns
returns c = c.apply_to.ensures ∙ ap (step_all c.args.board.now) (ap (λ n. n.batch) c.news.view_is) ∙ sym (batch_taken c.args.board.now c.args.news.now.items c.args.news.now.batch (sym (ap (λ n. n.items) c.news.view_is) ∙ c.if-news-n.false ∙ c.n.ensures.counted) (let e = c.cycle.ensures.found in let f = c.if-cycle.false in omega arith))
