use Rattle.std.proofs.Common.{rules, ◌≡◌, ◌<◌, ◌++◌, ◌∷◌, [], length, ap, ◌∙◌, arith}
use Rattle.chunk_program.proofs.EditionSteps.{cycle_more}
use Rattle.chunk_program.proofs.planning.cycles.Goals as goal

pub loop-k-preserved : goal.loop-k-preserved
loop-k-preserved c =
    let below : c.loop-k.k < length c.args.deck.now.replans = (let told = c.replans-k-end.ensures.told in omega arith) in
    let is : c.cycle.result ≡ c.replan.result.cycle = search rules in
    c.in_ok-push.ensures.items ∙ ap (λ l. l ++ c.cycle.result ∷ []) c.loop-k.invariant ∙ cycle_more c.args.deck.now.replans c.loop-k.k c.cycle.result c.replan.result below c.replan.ensures is
